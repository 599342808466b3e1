-- Entries are replayed one after another.
use Rattle.std.proofs.Common.{◌≡◌, ◌≢◌, ◌<◌, ◌≤◌, ◌+◌, ℕ, zero, suc, true, false, List, [], ◌∷◌, ◌++◌, length, get_or, take, drop, refl, sym, ◌∙◌, ◌⊎◌, inl, inr, ap, ap₂, subst, arith, append_assoc}
use Rattle.std.specs.Prelude.{Result, Ok, Err, IfOk, OnOk}
use Rattle.std.proofs.lemmas.List.{reverse-append}
use Rattle.std.proofs.Math.Seq.{drop-cons, take-suc}
use mathlib.Core.List.{reverse-cons}
use Rattle.zbx_types.specs.Entries.{moment_of}
use Rattle.zbx_types.specs.declared.base.Base.{Base}
use Rattle.zbx_types.specs.declared.conf.Conf.{Conf}
use Rattle.zbx_types.specs.declared.entries.Entry.{Entry}
use Rattle.zbx_types.specs.declared.entries.Entry.TheVariants.{Config, Value, Tick}
use Rattle.zbx_types.specs.declared.entries.Numbered.{Numbered}
use Rattle.zbx_types.specs.declared.entries.Rec.{Rec}
use Rattle.trigger_state.specs.Stages.{Stage, OwnsEvents, first_stage}
use Rattle.entry_step.specs.Cells.{Cells, look}
use Rattle.entry_step.specs.Due.{by_making}
use Rattle.entry_step.specs.InForce.{SuitsWhole, HoldsAt, CarriesOver}
use Rattle.entry_step.specs.Laws.{IsGood}
use Rattle.entry_step.specs.Log.{log_of, is_config, last_moment}
use Rattle.conf_index.specs.Order.{order}
use Rattle.entry_step.specs.Records.{out_of}
use Rattle.entry_step.specs.Represents.{Represents, Holds, ComesAfter, StepsTo}
use Rattle.entry_step.specs.Start.{Start, first_start, nothing}
use Rattle.entry_step.specs.Whole.{Point, out_at, point_with, point, whole_replay, cells_at, FitsWhole}
use Rattle.base_laws.specs.Bases.{base_stage, told_start}
use Rattle.entry_laws.specs.InForce.{FitsLog, IsFull, IsGround, behind_all}
use Rattle.entry_laws.proofs.Behind.{seen_upto}
use Rattle.entry_laws.proofs.InForce.{moment_behind_all, number_behind_all, suits_since, fits_suits, full_rises, rising_fits, good_behind, holds_behind_all, first_held, ground_held}
use Rattle.entry_step.proofs.Owning.{entries_own}
use Rattle.entry_step.proofs.Represented.{records_are, after_is}
use Rattle.book_opening.specs.declared.present.Present.{Present}
use Rattle.base_laws.specs.Grounds.{start_of}
use Rattle.book_opening.specs.Opening.{epochs_of, IsSound, IsPresent}
use Rattle.book_opening.specs.Outgoing.{log_records}
use Rattle.base_laws.proofs.Grounds.{start_is_ground, start_none, start_some}
use Rattle.book_opening.proofs.Growing.{of_any}
use Rattle.book_opening.proofs.Numbers.{full_behind}

-- ---- lists

pub taken_more : (xs : List Numbered) (k : ℕ) (d : Numbered) → k < length xs → take (k + 1) xs ≡ take k xs ++ get_or xs k d ∷ []
taken_more xs k d l = let z : k + 1 ≡ suc k = omega arith in ap (λ j. take j xs) z ∙ take-suc xs k d l

-- the log of the first entries with the next one
pub next_log : (kept : List Numbered) (i : ℕ) (d : Numbered) → i < length kept → log_of (take (i + 1) kept) ≡ get_or kept i d ∷ log_of (take i kept)
next_log kept i d l = ap log_of (taken_more kept i d l) ∙ reverse-append (take i kept) (get_or kept i d ∷ [])

pub taken_all : (xs : List Numbered) (n : ℕ) → length xs ≤ n → take n xs ≡ xs
taken_all [] zero l = refl
taken_all [] (suc n) l = refl
taken_all (x ∷ xs) zero l = absurd (omega arith)
taken_all (x ∷ xs) (suc n) l = ap (λ ys. x ∷ ys) (taken_all xs n (omega arith))

-- the next of the entries that are left
pub next_left : (kept : List Numbered) (i : ℕ) (d : Numbered) → i < length kept → drop i kept ≡ get_or kept i d ∷ drop (i + 1) kept
next_left kept i d l = let z : i + 1 ≡ suc i = omega arith in drop-cons kept i d l ∙ ap (λ j. get_or kept i d ∷ drop j kept) (sym z)

-- the log of some entries, and of those behind them
pub log_split : (kept : List Numbered) (i : ℕ) → log_of kept ≡ log_of (drop i kept) ++ log_of (take i kept)
log_split kept i = ap log_of (sym (parts kept i)) ∙ reverse-append (take i kept) (drop i kept)
  where
    parts : (xs : List Numbered) (n : ℕ) → take n xs ++ drop n xs ≡ xs
    parts [] zero = refl
    parts [] (suc n) = refl
    parts (x ∷ xs) zero = refl
    parts (x ∷ xs) (suc n) = ap (λ ys. x ∷ ys) (parts xs n)

-- ---- logs that can be replayed

fits_front : (flat : List ℕ → Conf) (start : Start) (newer log : List Numbered) → FitsLog flat start (newer ++ log) → FitsLog flat start log
fits_front flat start [] log fits = fits
fits_front flat start (e ∷ newer) log fits = fits_front flat start newer log fits.0

-- a part of one from its front
pub sound_front : (flat : List ℕ → Conf) (base : Base) (newer log : List Numbered) → IsSound flat base (newer ++ log) → IsSound flat base log
sound_front flat base newer log sound = record {
  distinct = sound.distinct;
  base_is = sound.base_is;
  full = full_behind (start_of flat base) newer log sound.full;
  fits = fits_front flat (start_of flat base) newer log sound.fits;
}

-- the part up to the next entry, behind another log
pub next_sound : (flat : List ℕ → Conf) (base : Base) (kept log : List Numbered) (i : ℕ) (d : Numbered) → i < length kept → IsSound flat base (log_of kept ++ log) → IsSound flat base (get_or kept i d ∷ (log_of (take i kept) ++ log))
next_sound flat base kept log i d l sound =
    subst (λ es. IsSound flat base (es ++ log)) (next_log kept i d l)
    (sound_front flat base (log_of (drop (i + 1) kept)) (log_of (take (i + 1) kept) ++ log)
    (subst (IsSound flat base) (ap (λ es. es ++ log) (log_split kept (i + 1)) ∙ append_assoc (log_of (drop (i + 1) kept)) (log_of (take (i + 1) kept)) log) sound))

-- ---- configurations that are still to come

epoch_of : (flat : List ℕ → Conf) (e : Numbered) (entry : Entry) (later : List Numbered) → e.entry ≡ entry → epochs_of flat (e ∷ later) ≡ epochs_of flat (record { number = e.number; entry = entry } ∷ later)
epoch_of flat e entry later is = ap (λ (x : Entry). epochs_of flat (record { number = e.number; entry = x } ∷ later)) is

-- a Config brings the first of them
pub epochs_config : (flat : List ℕ → Conf) (e : Numbered) (now : ℕ) (text : List ℕ) (later : List Numbered) → e.entry ≡ Config now text → epochs_of flat (e ∷ later) ≡ first_stage (flat text) ∷ epochs_of flat later
epochs_config flat e now text later is = epoch_of flat e (Config now text) later is

plain_epochs : (flat : List ℕ → Conf) (number : ℕ) (entry : Entry) (later : List Numbered) → is_config entry ≡ false → epochs_of flat (record { number = number; entry = entry } ∷ later) ≡ epochs_of flat later
plain_epochs flat number (Config now text) later is = absurd (cc)
plain_epochs flat number (Value now item time value) later is = refl
plain_epochs flat number (Tick now) later is = refl

pub epochs_plain : (flat : List ℕ → Conf) (e : Numbered) (later : List Numbered) → is_config e.entry ≡ false → epochs_of flat (e ∷ later) ≡ epochs_of flat later
epochs_plain flat e later is = plain_epochs flat e.number e.entry later is

-- there is one for each Config
pub epochs_some : (flat : List ℕ → Conf) (e : Numbered) (later : List Numbered) → is_config e.entry ≡ true → 0 < length (epochs_of flat (e ∷ later))
epochs_some flat e later is = go e.entry refl is
  where
    go : (entry : Entry) → e.entry ≡ entry → is_config entry ≡ true → 0 < length (epochs_of flat (e ∷ later))
    go (Config now text) same h = let long = ap (λ (es : List Stage). length es) (epochs_config flat e now text later same) in omega arith
    go (Value now item time value) same h = absurd (cc)
    go (Tick now) same h = absurd (cc)

-- ---- what stands there at first

-- what is in force behind a whole log on a start, and the cells
abbrev IsThere : (List ℕ → Conf) → Start → List Numbered → Present → Type 0
IsThere flat start log now = (now.ready ≡ (point flat start log).start.stage) × HoldsAt (point flat start log) now.cells

-- a base that isn't empty
pub base_present : (flat : List ℕ → Conf) (base : Base) (first : Stage) (now : Present) → base.text ≢ [] → first ≡ first_stage (flat base.text) → now.ready ≡ base_stage first.conf base
    → Holds (told_start first.conf base) now.cells [] → IsPresent flat base [] now
base_present flat base first now some is ready holds =
    let conf : first.conf ≡ flat base.text = ap (λ (s : Stage). s.conf) is in
    let held : Holds (told_start (flat base.text) base) now.cells [] = subst (λ (c : Conf). Holds (told_start c base) now.cells []) conf holds in
    let there : IsThere flat (told_start (flat base.text) base) [] now = (ready ∙ ap (λ (c : Conf). base_stage c base) conf, ground_held flat (told_start (flat base.text) base) now.cells held) in
    let done = subst (λ (s : Start). IsThere flat s [] now) (sym (start_some flat base some)) there in
    record { stage = done.0; cells = done.1 }

-- the first entry, behind an empty base: it is a Config of moment 0
pub first_fits : (flat : List ℕ → Conf) (base : Base) (e : Numbered) → base.text ≡ [] → IsSound flat base (e ∷ []) → (e.number ≡ 1) × (text : List ℕ) × (e.entry ≡ Config 0 text)
first_fits flat base e none sound =
    let fits = subst (λ (s : Start). FitsLog flat s (e ∷ [])) (start_none flat base none) sound.fits in
    let full = subst (λ (s : Start). IsFull s (e ∷ [])) (start_none flat base none) sound.full in
    let number : e.number ≡ 1 = full.1 in
    let found = config e.entry refl fits.1.0 fits.1.1 in (number, found.0, found.1)
  where
    config : (entry : Entry) → e.entry ≡ entry → is_config entry ≡ true → moment_of entry ≡ 0 → (text : List ℕ) × (e.entry ≡ Config 0 text)
    config (Config now text) same h none = (text, same ∙ ap (λ m. Config m text) none)
    config (Value now item time value) same h none = absurd (cc)
    config (Tick now) same h none = absurd (cc)

-- the log of entries, of which this is the first
pub log_first : (e : Numbered) (rest : List Numbered) → log_of (e ∷ rest) ≡ log_of rest ++ e ∷ []
log_first e rest = reverse-cons e rest

first_stands : (flat : List ℕ → Conf) (text : List ℕ) → (point flat nothing (record { number = 1; entry = Config 0 text } ∷ [])).start.stage ≡ first_stage (flat text)
unfolding by_making order
first_stands flat text = refl

first_makes : (flat : List ℕ → Conf) (text : List ℕ) → whole_replay flat nothing (record { number = 1; entry = Config 0 text } ∷ []) ≡ []
unfolding by_making order
first_makes flat text = refl

-- the parts of one list of configurations
pub parts : (x y : Stage) (xs ys : List Stage) → x ∷ xs ≡ y ∷ ys → (x ≡ y) × (xs ≡ ys)
parts x y xs ys e = (cc, cc)

-- what is in force behind it, and that it makes no records
pub first_present : (flat : List ℕ → Conf) (base : Base) (e : Numbered) (ready : Stage) (now : Present) (later : List Numbered) (epochs rest : List Stage) → base.text ≡ [] → IsSound flat base (e ∷ []) → epochs ≡ epochs_of flat (e ∷ later)
    → epochs ≡ ready ∷ rest → now.ready ≡ ready → Holds (first_start ready.conf) now.cells [] → IsPresent flat base (e ∷ []) now × (log_records flat base (e ∷ []) ≡ [])
first_present flat base e ready now later epochs rest none sound are split same holds =
    let done = subst (λ (s : Start). IsThere flat s (e ∷ []) now × (whole_replay flat s (e ∷ []) ≡ [])) (sym (start_none flat base none))
    (subst (λ (x : Numbered). IsThere flat nothing (x ∷ []) now × (whole_replay flat nothing (x ∷ []) ≡ [])) (sym config) (there, first_makes flat text)) in
    (record { stage = done.0.0; cells = done.0.1 }, done.1)
  where
    fits : (e.number ≡ 1) × (text : List ℕ) × (e.entry ≡ Config 0 text)
    fits = first_fits flat base e none sound

    text : List ℕ
    text = fits.1

    config : e ≡ record { number = 1; entry = Config 0 text }
    config = ap₂ one fits.0 fits.2
      where
        one : ℕ → Entry → Numbered
        one n x = record { number = n; entry = x }

    both : (ready ≡ first_stage (flat text)) × (rest ≡ epochs_of flat later)
    both = parts ready (first_stage (flat text)) rest (epochs_of flat later) (sym split ∙ are ∙ epochs_config flat e 0 text later fits.2)

    there : IsThere flat nothing (record { number = 1; entry = Config 0 text } ∷ []) now
    there = (
      same ∙ both.0 ∙ sym (first_stands flat text),
      first_held flat text (flat text) now.cells refl (subst (λ (s : Stage). Holds (first_start s.conf) now.cells []) both.0 holds),
    )

-- ---- the next entry

-- what a Value or a Tick leaves
plain_out : (flat : List ℕ → Conf) (p : Point) (e : Numbered) (entry : Entry) → is_config entry ≡ false → out_at flat p e entry ≡ out_of p.start p.since e e.entry p.records
plain_out flat p e (Config now text) is = absurd (cc)
plain_out flat p e (Value now item time value) is = refl
plain_out flat p e (Tick now) is = refl

plain_point : (flat : List ℕ → Conf) (p : Point) (e : Numbered) (entry : Entry) → is_config entry ≡ false
    → point_with flat p e entry ≡ record { start = p.start; since = e ∷ p.since; records = p.records ++ out_of p.start p.since e e.entry p.records }
plain_point flat p e (Config now text) is = absurd (cc)
plain_point flat p e (Value now item time value) is = refl
plain_point flat p e (Tick now) is = refl

module _ (flat : List ℕ → Conf) (base : Base) (log : List Numbered) (e : Numbered) (sound : IsSound flat base (e ∷ log)) where
  abbrev from : Start
  from = start_of flat base

  stands : IsGround from
  stands = start_is_ground flat base sound.distinct sound.base_is

  abbrev at : Point
  at = point flat from log

  whole : FitsWhole flat from (e ∷ log)
  whole = rising_fits flat from (e ∷ log) sound.distinct stands (full_rises from (e ∷ log) sound.full)

  suits : SuitsWhole flat from (e ∷ log)
  suits = fits_suits flat from (e ∷ log) stands sound.fits

  comes : ComesAfter at.start.stage.conf (cells_at at) e
  unfolding look
  comes id t =
      let seen = seen_upto at.start at.since id (suits_since flat from log suits.0) in
      let last = moment_behind_all flat from log in
      let m = suits.1 in
      omega arith

  owns : OwnsEvents at.start.stage e.number
  owns =
      let number = number_behind_all flat from log in
      let next = whole.1 in
      entries_own (behind_all flat from log) e (good_behind flat from log sound.distinct stands (full_rises from log sound.full.0)) (omega arith)

  -- a Value or a Tick is stepped
  pub plain_taken : (now next : Present) (made : List Rec) → is_config e.entry ≡ false → IsPresent flat base log now → next.ready ≡ now.ready → StepsTo now.ready now.cells e made next.cells
      → (made ≡ out_at flat at e e.entry) × IsPresent flat base (e ∷ log) next
  plain_taken now next made plain present same steps =
      let done = (subst (λ (s : Stage). StepsTo s now.cells e made next.cells) present.stage steps) (cells_at at) owns present.cells comes suits.2 in
      let cells : Represents at.start.stage next.cells (look at.start (e ∷ at.since) (at.records ++ out_of at.start at.since e e.entry at.records)) =
      subst (λ (c : Cells). Represents at.start.stage next.cells c) (after_is at.start at.since at.records e) done.1 in
      let there = subst (λ (p : Point). (next.ready ≡ p.start.stage) × HoldsAt p next.cells) (sym (plain_point flat at e e.entry plain)) (same ∙ present.stage, cells) in
      (done.0 ∙ records_are at.start at.since at.records e ∙ sym (plain_out flat at e e.entry plain), record { stage = there.0; cells = there.1 })

  -- a Config behind others carries over
  pub config_taken : (now next : Present) (made : List Rec) (at_moment : ℕ) (text : List ℕ) (ready : Stage) → e.entry ≡ Config at_moment text → IsPresent flat base log now → ready ≡ first_stage (flat text)
      → CarriesOver now.ready ready.conf e.number at_moment now.cells made next.ready next.cells → (made ≡ out_at flat at e e.entry) × IsPresent flat base (e ∷ log) next
  unfolding CarriesOver
  config_taken now next made at_moment text ready is present first carries =
      let m : last_moment from log ≤ at_moment = subst (λ (x : Entry). last_moment from log ≤ moment_of x) is suits.1 in
      let config : e ≡ record { number = e.number; entry = Config at_moment text } = ap (λ (x : Entry). record { number = e.number; entry = x }) is in
      let done =
      carries flat from log text (subst (λ (x : Numbered). FitsWhole flat from (x ∷ log)) config whole) suits.0 m (sym (ap (λ (s : Stage). s.conf) first))
      (sym present.stage) present.cells in
      subst (λ (x : Numbered). (made ≡ out_at flat at x x.entry) × IsPresent flat base (x ∷ log) next) (sym config) (done.0, record { stage = done.1; cells = done.2 })

-- each of these is no Config
pub plain_entry : (entry : Entry) → ((now : ℕ) × (item : ℕ) × (time : ℕ) × (value : List ℕ) × (entry ≡ Value now item time value)) ⊎ ((now : ℕ) × (entry ≡ Tick now)) → is_config entry ≡ false
plain_entry entry (inl is) = ap is_config is.4
plain_entry entry (inr is) = ap is_config is.1

-- what an entry makes and leaves behind any log behind a base, where its configuration, if it brings one, is the next of these
abbrev pub Makes : (List ℕ → Conf) → Base → Numbered → List Stage → Present → Present → List Rec → Type 0
Makes flat base e epochs now next made = (log later : List Numbered) → IsSound flat base (e ∷ log) → epochs ≡ epochs_of flat (e ∷ later) → IsPresent flat base log now
    → (made ≡ out_at flat (point flat (start_of flat base) log) e e.entry) × IsPresent flat base (e ∷ log) next

-- what either makes, where it isn't refused
pub config_step : {E : Type 0} (flat : List ℕ → Conf) (base : Base) (e : Numbered) (at_moment : ℕ) (text : List ℕ) (now next : Present) (ready : Stage) (epochs rest : List Stage) (r : Result (List Rec) E) → e.entry ≡ Config at_moment text → epochs ≡ ready ∷ rest
    → IfOk r (λ made. CarriesOver now.ready ready.conf e.number at_moment now.cells made next.ready next.cells) → IfOk r (Makes flat base e epochs now next)
config_step flat base e at_moment text now next ready epochs rest (Ok made) is split carries = λ log later sound are present.
    let both = parts ready (first_stage (flat text)) rest (epochs_of flat later) (sym split ∙ are ∙ epochs_config flat e at_moment text later is) in
    config_taken flat base log e sound now next made at_moment text ready is present both.0 carries
config_step flat base e at_moment text now next ready epochs rest (Err x) is split carries = tt

pub plain_step : {E : Type 0} (flat : List ℕ → Conf) (base : Base) (e : Numbered) (now next : Present) (epochs : List Stage) (r : Result (List Rec) E) → is_config e.entry ≡ false → next.ready ≡ now.ready
    → IfOk r (λ made. StepsTo now.ready now.cells e made next.cells) → IfOk r (Makes flat base e epochs now next)
plain_step flat base e now next epochs (Ok made) plain same steps = λ log later sound are present. plain_taken flat base log e sound now next made plain present same steps
plain_step flat base e now next epochs (Err x) plain same steps = tt

-- the configurations that are still to come behind either
pub config_later : {E : Type 0} (flat : List ℕ → Conf) (e : Numbered) (at_moment : ℕ) (text : List ℕ) (ready : Stage) (epochs rest : List Stage) (r : Result (List Rec) E) → e.entry ≡ Config at_moment text → epochs ≡ ready ∷ rest
    → OnOk r ((later : List Numbered) → epochs ≡ epochs_of flat (e ∷ later) → rest ≡ epochs_of flat later)
config_later flat e at_moment text ready epochs rest r is split =
    of_any r ((later : List Numbered) → epochs ≡ epochs_of flat (e ∷ later) → rest ≡ epochs_of flat later)
    (λ later are. (parts ready (first_stage (flat text)) rest (epochs_of flat later) (sym split ∙ are ∙ epochs_config flat e at_moment text later is)).1)

pub plain_later : {E : Type 0} (flat : List ℕ → Conf) (e : Numbered) (epochs : List Stage) (r : Result (List Rec) E) → is_config e.entry ≡ false
    → OnOk r ((later : List Numbered) → epochs ≡ epochs_of flat (e ∷ later) → epochs ≡ epochs_of flat later)
plain_later flat e epochs r plain = of_any r ((later : List Numbered) → epochs ≡ epochs_of flat (e ∷ later) → epochs ≡ epochs_of flat later) (λ later are. are ∙ epochs_plain flat e later plain)

-- and how many they are
pub config_counted : {E : Type 0} (ready : Stage) (epochs rest : List Stage) (old new : ℕ) (r : Result (List Rec) E) → epochs ≡ ready ∷ rest → new + 1 ≡ old → OnOk r (old ≡ length epochs → new ≡ length rest)
config_counted ready epochs rest old new r split less = of_any r (old ≡ length epochs → new ≡ length rest) (λ counted. let long = ap (λ (es : List Stage). length es) split in omega (arith, long, less, counted))

-- ---- what stands behind the entries with which a run begins

pub start_good : (flat : List ℕ → Conf) (base : Base) (kept : List Numbered) (start : Start) → start ≡ behind_all flat (start_of flat base) (log_of kept) → IsSound flat base (log_of kept) → IsGood start
start_good flat base kept start is sound = subst IsGood (sym is) (good_behind flat (start_of flat base) (log_of kept) sound.distinct (start_is_ground flat base sound.distinct sound.base_is) (full_rises (start_of flat base) (log_of kept) sound.full))

pub start_holds : (flat : List ℕ → Conf) (base : Base) (kept : List Numbered) (start : Start) (now : Present) → start ≡ behind_all flat (start_of flat base) (log_of kept) → IsSound flat base (log_of kept) → IsPresent flat base (log_of kept) now → Holds start now.cells []
start_holds flat base kept start now is sound present = subst (λ (s : Start). Holds s now.cells []) (sym is) (holds_behind_all flat (start_of flat base) (log_of kept) now.cells (start_is_ground flat base sound.distinct sound.base_is) sound.fits present.cells)

pub start_stage : (flat : List ℕ → Conf) (base : Base) (kept : List Numbered) (start : Start) (now : Present) → start ≡ behind_all flat (start_of flat base) (log_of kept) → IsPresent flat base (log_of kept) now → now.ready ≡ start.stage
start_stage flat base kept start now is present = present.stage ∙ ap (λ (s : Start). s.stage) (sym is)
