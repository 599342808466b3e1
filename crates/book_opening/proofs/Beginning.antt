-- What a run has before its entries are replayed.
use Rattle.std.proofs.Common.{◌≡◌, ◌≢◌, ◌==◌, true, false, ℕ, zero, suc, ◌+◌, ◌-◌, ◌<◌, ◌≤◌, List, [], ◌∷◌, ◌++◌, length, map, take, drop, refl, sym, ap, subst, ◌∙◌, append-nil, arith}
use Rattle.std.specs.Prelude.{Option, Some, None, IfSome, unwrap_or, Result, Ok, Err, IfOk}
use Rattle.std.proofs.lemmas.List.{length-reverse}
use Rattle.zbx_types.specs.declared.base.Base.{Base}
use Rattle.zbx_types.specs.declared.conf.Conf.{Conf}
use Rattle.zbx_types.specs.declared.entries.Numbered.{Numbered}
use Rattle.outside.specs.Tells.{SinkTells}
use Rattle.outside.specs.Others.{first_other}
use Rattle.event_text.specs.Lines.{lines_of}
use Rattle.trigger_state.specs.Stages.{Stage, first_stage}
use Rattle.entry_laws.specs.InForce.{HasBegun, texts_on}
use Rattle.entry_step.specs.Log.{log_of, is_config}
use Rattle.entry_step.specs.Represents.{Holds}
use Rattle.entry_step.specs.Start.{Start, first_start}
use Rattle.book_opening.specs.declared.kept.Reached.{Reached}
use Rattle.book_opening.specs.declared.opening.Replayed.{Replayed}
use Rattle.book_opening.specs.declared.present.Present.{Present}
use Rattle.base_laws.specs.Bases.{base_stage, told_start}
use Rattle.base_laws.specs.FitsBase.{FitsBase}
use Rattle.base_laws.specs.Grounds.{IsBase, start_of}
use Rattle.book_opening.specs.Opening.{IsSound, IsPresent, IsFirst, IsReached, IsRecorded, IsReplayed, epochs_of, replayed_of, run_epochs}
use Rattle.book_opening.specs.Outgoing.{log_records, no_outbox}
use Rattle.book_opening.specs.Tally.{tally_of}
use Rattle.base_laws.proofs.Grounds.{empty_text, some_text, some_of, start_none}
use Rattle.book_opening.proofs.Replaying.{taken_all, sound_front, epochs_config, epochs_some, first_fits, log_first, parts, base_present, first_present}

-- nothing was recorded yet
pub nothing_replayed : (flat : List ℕ → Conf) (base : Base) (log : List Numbered) (outbox : SinkTells) (r : Replayed) → IsPresent flat base log r.present → log_records flat base log ≡ [] → r.tally ≡ tally_of base.lines [] → r.other ≡ None → r.missing ≡ [] → IsReplayed flat base log outbox r
nothing_replayed flat base log outbox r present makes tally none missing = record {
  present = present;
  recorded = subst (λ rs. IsRecorded base.lines rs outbox r) (sym makes) (record {
    tally = tally;
    compared = record {
      place = go outbox.bytes;
      within = subst (λ o. IfSome o (λ place. (base.lines ≤ place) × (place < outbox.held) × (place < base.lines + length (lines_of [])))) (sym none) tt;
    };
    missing = missing ∙ sym (drop_none (unwrap_or r.other outbox.held - base.lines));
  });
}
  where
    go : (o : Option (List ℕ)) → IfSome o (λ b. r.other ≡ first_other base.lines [] (drop base.lines b))
    go None = tt
    go (Some b) = none

    drop_none : (n : ℕ) → drop n (lines_of []) ≡ []
    drop_none zero = refl
    drop_none (suc n) = refl

pub dropped : (e : Numbered) (later : List Numbered) → drop 1 (e ∷ later) ≡ later
dropped e [] = refl
dropped e (a ∷ later) = refl

-- all but the first
pub rest_of : (kept : List Numbered) → take (length kept - 1) (drop 1 kept) ≡ drop 1 kept
rest_of kept = taken_all (drop 1 kept) (length kept - 1) (few kept)
  where
    few : (es : List Numbered) → length (drop 1 es) ≤ length es - 1
    few [] = omega arith
    few (e ∷ later) = let same = ap (λ (es : List Numbered). length es) (dropped e later) in omega arith

-- the entries that are replayed, by what the code tests
pub replayed_rest : (text : List ℕ) (kept : List Numbered) → text ≡ [] → take (length kept - 1) (drop 1 kept) ≡ replayed_of text kept
replayed_rest text kept none = rest_of kept ∙ ap (λ t. replayed_of t kept) (sym none)

pub replayed_all : (text : List ℕ) (kept : List Numbered) → text ≢ [] → kept ≡ replayed_of text kept
replayed_all [] kept some = absurd (some refl)
replayed_all (byte ∷ text) kept some = refl

-- behind an empty base there is a first entry
pub some_kept : (flat : List ℕ → Conf) (base : Base) (kept : List Numbered) → base.text ≡ [] → HasBegun (start_of flat base) (log_of kept) → 0 < length kept
some_kept flat base kept none begun =
    let some : 1 ≤ 0 + length (log_of kept) = subst (λ (s : Start). HasBegun s (log_of kept)) (start_none flat base none) begun in
    let long = length-reverse kept in
    omega arith

-- what a run has before its entries are replayed, by what the code tests
pub first_none : {E : Type 0} (text : List ℕ) (base : Base) (first : Stage) (r : Result Present E) → (length text == 0) ≡ true → IfOk r (λ now. (now.ready ≡ first) × Holds (first_start first.conf) now.cells []) → IfOk r (IsFirst text base first)
first_none [] base first r is has = has
first_none (byte ∷ text) base first r is has = absurd (some_of (byte ∷ text) byte text refl (empty_text (byte ∷ text) is))

pub first_some : {E : Type 0} (text : List ℕ) (base : Base) (first : Stage) (r : Result Present E) → (length text == 0) ≡ false → IfOk r (λ now. now.ready ≡ base_stage first.conf base)
    → IfOk r (λ now. Holds (told_start first.conf base) now.cells []) → IfOk r (IsFirst text base first)
first_some [] base first r is ready cells = absurd (some_text [] is refl)
first_some (byte ∷ text) base first (Ok now) is ready cells = (ready, cells)
first_some (byte ∷ text) base first (Err e) is ready cells = tt

first_sound : (flat : List ℕ → Conf) (base : Base) (e : Numbered) (later : List Numbered) → IsSound flat base (log_of (e ∷ later)) → IsSound flat base (e ∷ [])
first_sound flat base e later sound = sound_front flat base (log_of later) (e ∷ []) (subst (IsSound flat base) (log_first e later) sound)

-- ---- the configurations

-- those of a run whose base has this text
epochs_with : (flat : List ℕ → Conf) (base : Base) (kept : List Numbered) (text : List ℕ) → base.text ≡ text → run_epochs flat base kept ≡ map (λ (t : List ℕ). first_stage (flat t)) (texts_on text kept)
epochs_with flat base kept text is = ap (λ (x : List ℕ). map (λ (t : List ℕ). first_stage (flat t)) (texts_on x kept)) is

-- there is a first one
pub first_epoch : (flat : List ℕ → Conf) (base : Base) (kept : List Numbered) → IsSound flat base (log_of kept) → HasBegun (start_of flat base) (log_of kept) → 0 < length (run_epochs flat base kept)
first_epoch flat base kept sound begun = go base.text refl
  where
    on : (kept : List Numbered) → base.text ≡ [] → IsSound flat base (log_of kept) → 0 < length kept → 0 < length (epochs_of flat kept)
    on [] none sound some = absurd (omega (arith, some))
    on (e ∷ later) none sound some = let fits = first_fits flat base e none (first_sound flat base e later sound) in epochs_some flat e later (ap is_config fits.2)

    go : (text : List ℕ) → base.text ≡ text → 0 < length (run_epochs flat base kept)
    go [] same = subst (λ (es : List Stage). 0 < length es) (sym (epochs_with flat base kept [] same)) (on kept same sound (some_kept flat base kept same begun))
    go (byte ∷ text) same = let long = ap (λ (es : List Stage). length es) (epochs_with flat base kept (byte ∷ text) same) in omega arith

-- behind a base that isn't empty it is that of the base's text, and all others are of the entries
base_epochs : (flat : List ℕ → Conf) (base : Base) (kept : List Numbered) (ready : Stage) (epochs rest : List Stage) (byte : ℕ) (text : List ℕ) → base.text ≡ byte ∷ text → epochs ≡ run_epochs flat base kept → epochs ≡ ready ∷ rest
    → (ready ≡ first_stage (flat base.text)) × (rest ≡ epochs_of flat kept)
base_epochs flat base kept ready epochs rest byte text same are split =
    let both = parts ready (first_stage (flat (byte ∷ text))) rest (epochs_of flat kept) (sym split ∙ are ∙ epochs_with flat base kept (byte ∷ text) same) in
    (both.0 ∙ ap (λ (t : List ℕ). first_stage (flat t)) (sym same), both.1)

-- behind an empty one it is that of the first entry
entry_epochs : (flat : List ℕ → Conf) (base : Base) (kept : List Numbered) (ready : Stage) (epochs rest : List Stage) → base.text ≡ [] → IsSound flat base (log_of kept) → 0 < length kept → epochs ≡ run_epochs flat base kept → epochs ≡ ready ∷ rest
    → (text : List ℕ) × (ready ≡ first_stage (flat text)) × (rest ≡ epochs_of flat (drop 1 kept))
entry_epochs flat base [] ready epochs rest none sound some are split = absurd (omega (arith, some))
entry_epochs flat base (e ∷ later) ready epochs rest none sound some are split =
    let fits = first_fits flat base e none (first_sound flat base e later sound) in
    let both = parts ready (first_stage (flat fits.1)) rest (epochs_of flat later) (sym split ∙ are ∙ epochs_with flat base (e ∷ later) [] none ∙ epochs_config flat e 0 fits.1 later fits.2) in
    (fits.1, both.0, both.1 ∙ ap (epochs_of flat) (sym (dropped e later)))

-- those of the entries that are replayed are still to come
pub later_epochs : (flat : List ℕ → Conf) (base : Base) (kept : List Numbered) (ready : Stage) (epochs rest : List Stage) → IsSound flat base (log_of kept) → HasBegun (start_of flat base) (log_of kept) → epochs ≡ run_epochs flat base kept
    → epochs ≡ ready ∷ rest → rest ≡ epochs_of flat (replayed_of base.text kept)
later_epochs flat base kept ready epochs rest sound begun are split = go base.text refl
  where
    go : (text : List ℕ) → base.text ≡ text → rest ≡ epochs_of flat (replayed_of base.text kept)
    go [] same =
        (entry_epochs flat base kept ready epochs rest same sound (some_kept flat base kept same begun) are split).2
        ∙ ap (λ (t : List ℕ). epochs_of flat (replayed_of t kept)) (sym same)
    go (byte ∷ text) same = (base_epochs flat base kept ready epochs rest byte text same are split).1 ∙ ap (λ (t : List ℕ). epochs_of flat (replayed_of t kept)) (sym same)

-- the first one is the only one yet, and a base that isn't empty fits it
pub first_is_first : (flat : List ℕ → Conf) (base : Base) (kept : List Numbered) (ready : Stage) (epochs rest : List Stage) → IsSound flat base (log_of kept) → HasBegun (start_of flat base) (log_of kept) → epochs ≡ run_epochs flat base kept
    → epochs ≡ ready ∷ rest → ready.origins ≡ []
first_is_first flat base kept ready epochs rest sound begun are split = go base.text refl
  where
    go : (text : List ℕ) → base.text ≡ text → ready.origins ≡ []
    go [] same = ap (λ (s : Stage). s.origins) (entry_epochs flat base kept ready epochs rest same sound (some_kept flat base kept same begun) are split).1
    go (byte ∷ text) same = ap (λ (s : Stage). s.origins) (base_epochs flat base kept ready epochs rest byte text same are split).0

pub first_fits_base : (flat : List ℕ → Conf) (base : Base) (kept : List Numbered) (ready : Stage) (epochs rest : List Stage) → IsBase flat base → epochs ≡ run_epochs flat base kept → epochs ≡ ready ∷ rest → base.text ≢ [] → FitsBase ready.conf base
first_fits_base flat base kept ready epochs rest is are split some = go base.text refl
  where
    go : (text : List ℕ) → base.text ≡ text → FitsBase ready.conf base
    go [] same = absurd (some same)
    go (byte ∷ text) same = subst (λ (s : Stage). FitsBase s.conf base) (sym (base_epochs flat base kept ready epochs rest byte text same are split).0) (is.fits some)

-- ---- what stands there at first

-- the first entry
begun_entry : (flat : List ℕ → Conf) (base : Base) (kept : List Numbered) (outbox : SinkTells) (ready : Stage) (epochs rest : List Stage) (r : Replayed) → base.text ≡ [] → IsSound flat base (log_of kept) → 0 < length kept → epochs ≡ run_epochs flat base kept
    → epochs ≡ ready ∷ rest → IsFirst [] base ready r.present → r.tally ≡ tally_of base.lines [] → r.other ≡ None → r.missing ≡ []
    → (first : List Numbered) × (log_of kept ≡ log_of (drop 1 kept) ++ first) × IsReplayed flat base first outbox r
begun_entry flat base [] outbox ready epochs rest r none sound some are split first tally other missing = absurd (omega (arith, some))
begun_entry flat base (e ∷ later) outbox ready epochs rest r none sound some are split first tally other missing =
    let made = first_present flat base e ready r.present later epochs rest none (first_sound flat base e later sound) (are ∙ epochs_with flat base (e ∷ later) [] none) split first.0 first.1 in (
      e ∷ [],
      log_first e later ∙ ap (λ (es : List Numbered). log_of es ++ e ∷ []) (sym (dropped e later)),
      nothing_replayed flat base (e ∷ []) outbox r made.0 made.1 tally other missing,
    )

-- or a base
begun_base : (flat : List ℕ → Conf) (base : Base) (kept : List Numbered) (outbox : SinkTells) (ready : Stage) (epochs rest : List Stage) (r : Replayed) (byte : ℕ) (text : List ℕ) → base.text ≡ byte ∷ text → epochs ≡ run_epochs flat base kept
    → epochs ≡ ready ∷ rest → IsFirst (byte ∷ text) base ready r.present → r.tally ≡ tally_of base.lines [] → r.other ≡ None → r.missing ≡ [] → IsReplayed flat base [] outbox r
begun_base flat base kept outbox ready epochs rest r byte text same are split first tally other missing =
    let present = base_present flat base ready r.present (some_of base.text byte text same) (base_epochs flat base kept ready epochs rest byte text same are split).0 first.0 first.1 in
    nothing_replayed flat base [] outbox r present refl tally other missing

-- what is there is a front of the log, with which no byte was compared yet
pub begun : (flat : List ℕ → Conf) (base : Base) (kept : List Numbered) (outbox : SinkTells) (ready : Stage) (epochs rest : List Stage) (r : Replayed) → IsSound flat base (log_of kept) → HasBegun (start_of flat base) (log_of kept) → epochs ≡ run_epochs flat base kept
    → epochs ≡ ready ∷ rest → IsFirst base.text base ready r.present → r.tally ≡ tally_of base.lines [] → r.other ≡ None → r.missing ≡ []
    → (first : List Numbered) × (log_of kept ≡ log_of (replayed_of base.text kept) ++ first) × IsReplayed flat base first outbox r
begun flat base kept outbox ready epochs rest r sound begins are split first tally other missing = go base.text refl
  where
    go : (text : List ℕ) → base.text ≡ text → (first : List Numbered) × (log_of kept ≡ log_of (replayed_of base.text kept) ++ first) × IsReplayed flat base first outbox r
    go [] same =
        let made = begun_entry flat base kept outbox ready epochs rest r same sound (some_kept flat base kept same begins) are split (subst (λ (t : List ℕ). IsFirst t base ready r.present) same first) tally other missing in
        (made.0, made.1 ∙ ap (λ (t : List ℕ). log_of (replayed_of t kept) ++ made.0) (sym same), made.2)
    go (byte ∷ text) same = (
      [],
      sym (append-nil (log_of kept)) ∙ ap (λ (t : List ℕ). log_of (replayed_of t kept) ++ []) (sym same),
      begun_base flat base kept outbox ready epochs rest r byte text same are split (subst (λ (t : List ℕ). IsFirst t base ready r.present) same first) tally other missing,
    )

-- so it is of what has no outbox
pub reached_first : (flat : List ℕ → Conf) (base : Base) (kept : List Numbered) (ready : Stage) (epochs rest : List Stage) (r : Reached) → IsSound flat base (log_of kept) → HasBegun (start_of flat base) (log_of kept) → epochs ≡ run_epochs flat base kept
    → epochs ≡ ready ∷ rest → IsFirst base.text base ready r.present → r.tally ≡ tally_of base.lines []
    → (first : List Numbered) × (log_of kept ≡ log_of (replayed_of base.text kept) ++ first) × IsReached flat base first r
reached_first flat base kept ready epochs rest r sound begins are split first tally =
    let all : Replayed = record { present = r.present; tally = r.tally; other = None; missing = [] } in
    let made = begun flat base kept no_outbox ready epochs rest all sound begins are split first tally refl refl in
    (made.0, made.1, record { present = made.2.present; tally = made.2.recorded.tally })
