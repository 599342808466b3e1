-- The configuration in force along a whole log, and what a whole log leaves for the entries that follow it. A log stands on a start.
use Rattle.std.proofs.Common.{◌≡◌, ◌≤◌, ◌<◌, ◌+◌, ◌==◌, ◌&&◌, ℕ, not, Bool, true, false, cond, Option, Some, None, List, [], ◌∷◌, ◌++◌, length, refl, sym, ◌∙◌, ap, ap₂, subst, eqb-true, append-nil, append_assoc, arith}
use mathlib.Core.Path.{fun_ext}
use Rattle.std.specs.Prelude.{option_and_then}
use Rattle.std.specs.List.{list_any}
use Rattle.std.specs.Option.{option_map_or}
use Rattle.zbx_types.specs.Entries.{moment_of}
use Rattle.zbx_types.specs.Ids.{at_id}
use Rattle.zbx_types.specs.Records.{event_of}
use Rattle.zbx_types.specs.declared.conf.Conf.{Conf}
use Rattle.zbx_types.specs.declared.entries.Entry.{Entry}
use Rattle.zbx_types.specs.declared.entries.Entry.TheVariants.{Config, Value, Tick}
use Rattle.zbx_types.specs.declared.entries.Numbered.{Numbered}
use Rattle.zbx_types.specs.declared.entries.Rec.{Rec}
use Rattle.zbx_types.specs.declared.entries.Rec.TheVariants.{Failure, Problem, Recovery, Step, Message}
use Rattle.zbx_types.specs.declared.entries.Stored.{Stored}
use Rattle.zbx_types.specs.declared.items.Item.{Item}
use Rattle.preprocess.specs.Carry.{old_item}
use Rattle.preprocess.specs.Cells.{no_marks}
use Rattle.preprocess.specs.Draft.{stored_of as stored_by}
use Rattle.value_cache.specs.Cells.{trim}
use Rattle.value_cache.specs.Keeps.{keep_of}
use Rattle.trigger_state.specs.Problems.{opened, recovers, open_of}
use Rattle.trigger_state.specs.declared.stage.Origin.{Origin}
use Rattle.trigger_state.specs.Stages.{Stage, first_stage, home}
use Rattle.trigger_state.specs.declared.problems.Open.{Open}
use Rattle.entry_step.specs.Carry.{next_start}
use Rattle.entry_step.specs.Cells.{Key, ItemKey, TriggerKey, TickKey, Cells, look, AreCellsOf}
use Rattle.entry_step.specs.Due.{by_making}
use Rattle.entry_step.specs.Each.{Each}
use Rattle.entry_step.specs.History.{stored_of, with_stored, marks_of, memory_of, history_of}
use Rattle.entry_step.specs.Log.{is_config, last_moment, last_number, IsFitting, IsRising, Suits}
use Rattle.entry_step.specs.Named.{AreDistinct}
use Rattle.conf_index.specs.Order.{order}
use Rattle.entry_step.specs.Records.{out_of, replay}
use Rattle.entry_step.specs.Represents.{CellsView, AllAtHome, IsTagged, AllTagged, Represents, Holds}
use Rattle.entry_step.specs.Start.{Start, first_start, no_conf, nothing}
use Rattle.entry_step.specs.Whole.{Point, out_at, point_with, point, cells_at, whole_replay, IsTold, AreTold, FitsWhole, HasDistinct}
use Rattle.entry_laws.specs.InForce.{IsGround, conf_with, conf_behind, FitsLater, FitsOn, FitsBehind, FitsLog, IsFull, IsPlain, left_by, behind_all, NothingIsGround, ConfIsBehind, ReplayOn, texts_of, config_texts, ConfigTextsAppend, RecordsBehindAll, NumberBehindAll, MomentBehindAll, FitsSuits, SuitsSince, FullRises, RisingFits, GoodBehind, HoldsBehindAll, HasBegun, PlainFits, FirstHeld, GroundHeld}
use Rattle.entry_laws.proofs.Behind.{replay_behind, holds_behind}
use Rattle.entry_step.proofs.Members.{each_sub}
use Rattle.entry_step.proofs.Moving.{origins_next}
use Rattle.entry_step.proofs.Visited.{absent}
use Rattle.entry_step.proofs.Wholes.{stays_told, all_told, fresh_fits}

-- The texts of Configs
pub config_texts_append : ConfigTextsAppend
config_texts_append [] ys = refl
config_texts_append (e ∷ xs) ys = ap (λ ts. texts_of e.entry ++ ts) (config_texts_append xs ys) ∙ sym (append_assoc (texts_of e.entry) (config_texts xs) (config_texts ys))

-- The configuration in force
pub conf_is_behind : ConfIsBehind
conf_is_behind flat start [] = refl
conf_is_behind flat start (e ∷ log) = go e.entry (conf_is_behind flat start log)
  where
    go : (entry : Entry) → (point flat start log).start.stage.conf ≡ conf_behind flat start log → (point_with flat (point flat start log) e entry).start.stage.conf ≡ conf_with flat (conf_behind flat start log) entry
    go (Config now text) q = refl
    go (Value now item time value) q = q
    go (Tick now) q = q

conf_on : (flat : List ℕ → Conf) (start : Start) (newer older : List Numbered) → Each IsPlain newer → conf_behind flat start (newer ++ older) ≡ conf_behind flat start older
conf_on flat start [] older plain = refl
conf_on flat start (e ∷ newer) older plain = go e.entry plain.0 (conf_on flat start newer older plain.1)
  where
    go : (entry : Entry) → is_config entry ≡ false → conf_behind flat start (newer ++ older) ≡ conf_behind flat start older → conf_with flat (conf_behind flat start (newer ++ older)) entry ≡ conf_behind flat start older
    go (Config now text) q ih = absurd (cc)
    go (Value now item time value) q ih = ih
    go (Tick now) q ih = ih

-- A Value or a Tick leaves the start at which a point stands
abbrev plainly : Point → Numbered → Point
plainly p e = record { start = p.start; since = e ∷ p.since; records = p.records ++ out_of p.start p.since e e.entry p.records }

plain_is : (flat : List ℕ → Conf) (p : Point) (e : Numbered) (entry : Entry) → is_config entry ≡ false → point_with flat p e entry ≡ plainly p e
plain_is flat p e (Config now text) q = absurd (cc)
plain_is flat p e (Value now item time value) q = refl
plain_is flat p e (Tick now) q = refl

start_on : (flat : List ℕ → Conf) (start : Start) (newer older : List Numbered) → Each IsPlain newer → (point flat start (newer ++ older)).start ≡ (point flat start older).start
start_on flat start [] older plain = refl
start_on flat start (e ∷ newer) older plain = ap (λ (p : Point). p.start) (plain_is flat (point flat start (newer ++ older)) e e.entry plain.0) ∙ start_on flat start newer older plain.1

since_on : (flat : List ℕ → Conf) (start : Start) (newer older : List Numbered) → Each IsPlain newer → (point flat start (newer ++ older)).since ≡ newer ++ (point flat start older).since
since_on flat start [] older plain = refl
since_on flat start (e ∷ newer) older plain = ap (λ (p : Point). p.since) (plain_is flat (point flat start (newer ++ older)) e e.entry plain.0) ∙ ap (λ es. e ∷ es) (since_on flat start newer older plain.1)

-- What stands at a point
records_at : (flat : List ℕ → Conf) (start : Start) (log : List Numbered)
    → (point flat start log).records ≡ (point flat start log).start.records ++ replay (point flat start log).start (point flat start log).since
records_at flat start [] = sym (append-nil start.records)
records_at flat start (e ∷ log) = go e.entry (records_at flat start log)
  where
    p : Point
    p = point flat start log

    plain : p.records ≡ p.start.records ++ replay p.start p.since → p.records ++ out_of p.start p.since e e.entry p.records ≡ p.start.records ++ replay p.start (e ∷ p.since)
    plain ih =
        ap (λ rs. rs ++ out_of p.start p.since e e.entry rs) ih
        ∙ append_assoc p.start.records (replay p.start p.since) (out_of p.start p.since e e.entry (p.start.records ++ replay p.start p.since))

    go : (entry : Entry) → p.records ≡ p.start.records ++ replay p.start p.since
        → (point_with flat p e entry).records ≡ (point_with flat p e entry).start.records ++ replay (point_with flat p e entry).start (point_with flat p e entry).since
    go (Config now text) ih = sym (append-nil (p.records ++ out_at flat p e (Config now text)))
    go (Value now item time value) ih = plain ih
    go (Tick now) ih = plain ih

number_at : (flat : List ℕ → Conf) (start : Start) (log : List Numbered) → last_number (point flat start log).start (point flat start log).since ≡ last_number start log
number_at flat start [] = refl
number_at flat start (e ∷ log) = go e.entry
  where
    go : (entry : Entry) → last_number (point_with flat (point flat start log) e entry).start (point_with flat (point flat start log) e entry).since ≡ e.number
    go (Config now text) = refl
    go (Value now item time value) = refl
    go (Tick now) = refl

moment_at : (flat : List ℕ → Conf) (start : Start) (log : List Numbered) → last_moment (point flat start log).start (point flat start log).since ≡ last_moment start log
moment_at flat start [] = refl
moment_at flat start (e ∷ log) = go e.entry refl
  where
    go : (entry : Entry) → moment_of e.entry ≡ moment_of entry → last_moment (point_with flat (point flat start log) e entry).start (point_with flat (point flat start log) e entry).since ≡ moment_of e.entry
    go (Config now text) q = sym q
    go (Value now item time value) q = refl
    go (Tick now) q = refl

-- What a whole log leaves
pub records_behind_all : RecordsBehindAll
records_behind_all flat start log = sym (records_at flat start log) ∙ all_told flat start log

pub number_behind_all : NumberBehindAll
number_behind_all flat start log = number_at flat start log

pub moment_behind_all : MomentBehindAll
moment_behind_all flat start log = moment_at flat start log

cancel : (xs ys zs : List Rec) → xs ++ ys ≡ xs ++ zs → ys ≡ zs
cancel [] ys zs q = q
cancel (x ∷ xs) ys zs q = cancel xs ys zs (tail (xs ++ ys) (xs ++ zs) q)
  where
    tail : (left right : List Rec) → x ∷ left ≡ x ∷ right → left ≡ right
    tail left right q = cc

pub replay_on : ReplayOn
replay_on flat start newer older plain =
    let p : Point = point flat start older in
    cancel start.records (whole_replay flat start (newer ++ older)) (whole_replay flat start older ++ replay (left_by p) newer)
    (sym (all_told flat start (newer ++ older))
    ∙ records_at flat start (newer ++ older)
    ∙ ap₂ (λ (s : Start) (es : List Numbered). s.records ++ replay s es) (start_on flat start newer older plain) (since_on flat start newer older plain)
    ∙ ap (λ rs. p.start.records ++ rs) (replay_behind p.start newer p.since)
    ∙ sym (append_assoc p.start.records (replay p.start p.since) (replay (left_by p) newer))
    ∙ ap (λ rs. rs ++ replay (left_by p) newer) (records_behind_all flat start older)
    ∙ append_assoc start.records (whole_replay flat start older) (replay (left_by p) newer))

-- A log that fits suits
pub suits_since : SuitsSince
suits_since flat start [] suits = tt
suits_since flat start (e ∷ log) suits = go e.entry (suits_since flat start log suits.0)
  where
    p : Point
    p = point flat start log

    plain : Suits p.start p.since → Suits p.start (e ∷ p.since)
    plain ih = (ih, subst (λ m. m ≤ moment_of e.entry) (sym (moment_at flat start log)) suits.1, suits.2)

    go : (entry : Entry) → Suits p.start p.since → Suits (point_with flat p e entry).start (point_with flat p e entry).since
    go (Config now text) ih = tt
    go (Value now item time value) ih = plain ih
    go (Tick now) ih = plain ih

fits_on : (text : List ℕ) (conf : Conf) (moment : ℕ) (entry : Entry) → (text ≡ [] → moment ≡ 0) → FitsOn text conf moment entry → FitsLater conf moment entry
fits_on [] conf moment (Config now text) none fits = let z : moment ≡ 0 = none refl in (omega arith, tt)
fits_on [] conf moment (Value now item time value) none fits = let q = fits.0 in absurd (cc)
fits_on [] conf moment (Tick now) none fits = let q = fits.0 in absurd (cc)
fits_on (byte ∷ text) conf moment entry none fits = fits

fits_with : (flat : List ℕ → Conf) (start : Start) (log : List Numbered) (entry : Entry) → IsGround start → FitsBehind (conf_behind flat start log) start log entry
    → (last_moment start log ≤ moment_of entry) × IsFitting (point flat start log).start.stage.conf entry
fits_with flat start [] entry ground fits = fits_on start.stage.conf.text start.stage.conf start.moment entry ground.moment fits
fits_with flat start (a ∷ log) entry ground fits = (fits.0, subst (λ (conf : Conf). IsFitting conf entry) (sym (conf_is_behind flat start (a ∷ log))) fits.1)

pub fits_suits : FitsSuits
fits_suits flat start [] ground fits = tt
fits_suits flat start (e ∷ log) ground fits = let own = fits_with flat start log e.entry ground fits.1 in (fits_suits flat start log ground fits.0, own.0, own.1)

-- Numbers that rise
number_full : (start : Start) (log : List Numbered) → IsFull start log → last_number start log ≡ start.number + length log
number_full start [] full = omega arith
number_full start (e ∷ log) full = let n = full.1 in omega arith

pub full_rises : FullRises
full_rises start [] full = tt
full_rises start (e ∷ log) full = (let n = full.1 in let before = number_full start log full.0 in omega arith, full_rises start log full.0)

none_at : {A : Type 0} (id : ℕ) → at_id {A = A} [] id ≡ None
unfolding at_id
none_at {A} id = go (id == 0)
  where
    go : (b : Bool) → cond {A = Option A} b None None ≡ None
    go true = refl
    go false = refl

no_conf_distinct : AreDistinct no_conf
no_conf_distinct i j a b at other hosts names = let none : None ≡ Some a = sym (none_at i) ∙ at in absurd (cc)

pub nothing_is_ground : NothingIsGround
nothing_is_ground = record { fits = fresh_fits no_conf no_conf_distinct; absent = λ id none. refl; moment = λ q. refl }

pub rising_fits : RisingFits
rising_fits flat start [] distinct ground rising = ground.fits
rising_fits flat start (e ∷ log) distinct ground rising = (rising_fits flat start log distinct ground rising.1, rising.0, has e.entry)
  where
    has : (entry : Entry) → HasDistinct flat entry
    has (Config now text) = distinct text
    has (Value now item time value) = tt
    has (Tick now) = tt

-- Origins
distinct_at : (flat : List ℕ → Conf) (start : Start) (log : List Numbered) → FitsWhole flat start log → AreDistinct (point flat start log).start.stage.conf
distinct_at flat start [] fits = fits.distinct
distinct_at flat start (e ∷ log) fits = go e.entry fits.2 (distinct_at flat start log fits.0)
  where
    go : (entry : Entry) → HasDistinct flat entry → AreDistinct (point flat start log).start.stage.conf → AreDistinct (point_with flat (point flat start log) e entry).start.stage.conf
    go (Config now text) distinct ih = distinct
    go (Value now item time value) distinct ih = ih
    go (Tick now) distinct ih = ih

origins_at : (flat : List ℕ → Conf) (start : Start) (log : List Numbered) → FitsWhole flat start log → Each (λ (o : Origin). o.event.number ≤ last_number start log) (point flat start log).start.stage.origins
origins_at flat start [] fits = fits.origins
origins_at flat start (e ∷ log) fits = go e.entry fits.2 (later fits.1 (origins_at flat start log fits.0))
  where
    p : Point
    p = point flat start log

    later : last_number start log < e.number → Each (λ (o : Origin). o.event.number ≤ last_number start log) p.start.stage.origins → Each (λ (o : Origin). o.event.number ≤ e.number) p.start.stage.origins
    later l ih = each_sub (λ (o : Origin). o.event.number ≤ last_number start log) (λ (o : Origin). o.event.number ≤ e.number) p.start.stage.origins (λ o u. omega arith) ih

    go : (entry : Entry) → HasDistinct flat entry → Each (λ (o : Origin). o.event.number ≤ e.number) p.start.stage.origins → Each (λ (o : Origin). o.event.number ≤ e.number) (point_with flat p e entry).start.stage.origins
    go (Config now text) distinct ih = let l = fits.1 in origins_next p.start.stage (flat text) (last_number start log) e.number now p.records (distinct_at flat start log fits.0) distinct (stays_told flat start log fits.0) (omega arith)
    go (Value now item time value) distinct ih = ih
    go (Tick now) distinct ih = ih

-- What is tidy at a point
homes_of : (stage : Stage) (rs : List Rec) (id : ℕ) → AllAtHome stage id (open_of stage rs id)
homes_of stage [] id = tt
homes_of stage (r ∷ rs) id = go r (homes_of stage rs id)
  where
    one : (o : Open) (a b : Bool) → (a ≡ true → home stage (event_of o.problem) ≡ id) → AllAtHome stage id (open_of stage rs id) → AllAtHome stage id (cond (a && b) (o ∷ open_of stage rs id) (open_of stage rs id))
    one o true true h ih = (h refl, ih)
    one o true false h ih = ih
    one o false b h ih = ih

    go : (r : Rec) → AllAtHome stage id (open_of stage rs id) → AllAtHome stage id (open_of stage (r ∷ rs) id)
    go (Problem event now severity suppressed host trigger name tags) ih =
        one (opened stage (Problem event now severity suppressed host trigger name tags) rs) (home stage event == id) (not (list_any (recovers event) rs)) (λ q. eqb-true (home stage event) id q) ih
    go (Failure number host key why) ih = ih
    go (Recovery event by now cause) ih = ih
    go (Step event action step now) ih = ih
    go (Message event action step recipient subject body) ih = ih

tagged_of : (stage : Stage) (number : ℕ) (rs : List Rec) → AreTold stage number rs → (id : ℕ) → AllTagged stage.conf id (open_of stage rs id)
tagged_of stage number rs told id = each_sub (λ (o : Open). IsTold stage.conf number id o.problem) (λ (o : Open). IsTagged stage.conf id o.problem) (open_of stage rs id) (λ o t. (t.trigger, t.there, t.tags)) (told id)

no_history : (flat : List ℕ → Conf) (start : Start) (log : List Numbered) (id : ℕ) → IsGround start → at_id (point flat start log).start.stage.conf.items id ≡ None → history_of (point flat start log).start (point flat start log).since id ≡ []
unfolding stored_of
no_history flat start [] id ground none = ground.absent id none
no_history flat start (e ∷ log) id ground none = go e.entry none (no_history flat start log id ground)
  where
    p : Point
    p = point flat start log

    plain : at_id p.start.stage.conf.items id ≡ None → (at_id p.start.stage.conf.items id ≡ None → history_of p.start p.since id ≡ []) → history_of p.start (e ∷ p.since) id ≡ []
    plain q ih = ap (λ o. with_stored (stored_by o) (history_of p.start p.since id)) (absent p.start.stage.conf (memory_of p.start p.since) e.number e.entry id q) ∙ ih q

    go : (entry : Entry) → at_id (point_with flat p e entry).start.stage.conf.items id ≡ None → (at_id p.start.stage.conf.items id ≡ None → history_of p.start p.since id ≡ [])
        → history_of (point_with flat p e entry).start (point_with flat p e entry).since id ≡ []
    go (Config now text) q ih =
        ap (λ x. option_map_or (λ before. trim (keep_of p.start.stage.conf before) now (history_of p.start p.since before)) (option_and_then (old_item p.start.stage.conf (flat text)) x) []) q
    go (Value now item time value) q ih = plain q ih
    go (Tick now) q ih = plain q ih

pub good_behind : GoodBehind
unfolding look
good_behind flat start log distinct ground rising = record {
  tidy = record { homes = λ id. homes_of p.start.stage (left_by p).records id; tagged = tagged; absent = λ id. no_history flat start log id ground };
  origins = subst (λ n. Each (λ (o : Origin). o.event.number ≤ n) p.start.stage.origins) (sym (number_at flat start log)) (origins_at flat start log fits);
}
  where
    p : Point
    p = point flat start log

    fits : FitsWhole flat start log
    fits = rising_fits flat start log distinct ground rising

    told : AreTold p.start.stage (last_number start log) (left_by p).records
    told = subst (AreTold p.start.stage (last_number start log)) (records_at flat start log) (stays_told flat start log fits)

    tagged : (id : ℕ) → AllTagged p.start.stage.conf id (open_of p.start.stage (left_by p).records id)
    tagged = tagged_of p.start.stage (last_number start log) (left_by p).records told

-- What holds a whole log
pub holds_behind_all : HoldsBehindAll
unfolding AreCellsOf
holds_behind_all flat start log held ground fits at =
    let p : Point = point flat start log in
    holds_behind p.start held p.since (suits_since flat start log (fits_suits flat start log ground fits)) (record { cells = cells_at p; stand = ap (look p.start p.since) (records_at flat start log); represented = at })

-- Values and Ticks that fit
module _ (flat : List ℕ → Conf) (start : Start) (older : List Numbered) (begun : HasBegun start older) where
  abbrev left : Start
  left = behind_all flat start older

  -- behind at least one entry
  later : (es : List Numbered) (conf : Conf) (entry : Entry) → HasBegun start es → FitsBehind conf start es entry ≡ FitsLater conf (last_moment start es) entry
  later [] conf entry some = on start.stage.conf.text some
    where
      on : (text : List ℕ) → 1 ≤ length text + 0 → FitsOn text conf start.moment entry ≡ FitsLater conf start.moment entry
      on [] l = absurd (omega arith)
      on (byte ∷ text) l = refl
  later (a ∷ es) conf entry some = refl

  more : (newer : List Numbered) → HasBegun start (newer ++ older)
  more [] = begun
  more (e ∷ newer) = omega arith

  -- an entry fits behind some Values and Ticks exactly where it suits them
  one_fits : (newer : List Numbered) (entry : Entry) → Each IsPlain newer
      → FitsBehind (conf_behind flat start (newer ++ older)) start (newer ++ older) entry ≡ FitsLater left.stage.conf (last_moment left newer) entry
  one_fits newer entry plain =
      later (newer ++ older) (conf_behind flat start (newer ++ older)) entry (more newer)
      ∙ ap₂ (λ (conf : Conf) m. FitsLater conf m entry) (conf_on flat start newer older plain ∙ sym (conf_is_behind flat start older)) (moments newer)
    where
      moments : (newer : List Numbered) → last_moment start (newer ++ older) ≡ last_moment left newer
      moments [] = sym (moment_at flat start older)
      moments (e ∷ newer) = refl

  fits_suiting : (newer : List Numbered) → Each IsPlain newer → FitsLog flat start (newer ++ older) → FitsLog flat start older × Suits left newer
  fits_suiting [] plain fits = (fits, tt)
  fits_suiting (e ∷ newer) plain fits =
      let before = fits_suiting newer plain.1 fits.0 in
      let own : FitsLater left.stage.conf (last_moment left newer) e.entry = subst (λ T. T) (one_fits newer e.entry plain.1) fits.1 in
      (before.0, (before.1, own.0, own.1))

  suiting_fits : (newer : List Numbered) → Each IsPlain newer → FitsLog flat start older → Suits left newer → FitsLog flat start (newer ++ older)
  suiting_fits [] plain fits suits = fits
  suiting_fits (e ∷ newer) plain fits suits = (suiting_fits newer plain.1 fits suits.0, subst (λ T. T) (sym (one_fits newer e.entry plain.1)) (suits.1, suits.2))

pub plain_fits : PlainFits
plain_fits flat start newer older begun plain = (fits_suiting flat start older begun newer plain, suiting_fits flat start older begun newer plain)

-- The first Config of all
abbrev begun : Conf → ℕ → ℕ → Start
begun conf number now = record {
  stage = first_stage conf;
  number = number;
  moment = now;
  tick = None;
  histories = λ id. [];
  marks = λ id. option_map_or no_marks (at_id conf.items id) [];
  records = [];
}

-- over nothing a Config carries nothing over
over_nothing : (conf : Conf) (number now : ℕ) → next_start nothing [] conf number now [] ≡ begun conf number now
unfolding by_making order
over_nothing conf number now = ap (λ (h : ℕ → List Stored). record (begun conf number now) { histories = h }) (fun_ext (λ id. none (at_id conf.items id)))
  where
    none : (x : Option Item) → option_map_or (λ before. trim (keep_of no_conf before) now []) (option_and_then (old_item no_conf conf) x) [] ≡ []
    none None = refl
    none (Some item) = refl

begun_cells : (conf : Conf) (number : ℕ) → look (first_start conf) [] [] ≡ look (begun conf number 0) [] []
unfolding look marks_of
begun_cells conf number = fun_ext cell
  where
    cell : (k : Key) → look (first_start conf) [] [] k ≡ look (begun conf number 0) [] [] k
    cell (ItemKey id) = refl
    cell (TriggerKey id) = refl
    cell TickKey = refl

first_is : (conf : Conf) (held : CellsView) → Holds (first_start conf) held [] → Represents (first_stage conf) held (look (begun conf 1 0) [] [])
unfolding AreCellsOf
first_is conf held holds = subst (λ (c : Cells). Represents (first_stage conf) held c) (holds.stand ∙ begun_cells conf 1) holds.represented

pub first_held : FirstHeld
first_held flat text conf held same holds =
    subst (λ (s : Start). Represents s.stage held (look s [] s.records)) (sym (over_nothing (flat text) 1 0))
    (first_is (flat text) held (subst (λ (c : Conf). Holds (first_start c) held []) (sym same) holds))

pub ground_held : GroundHeld
unfolding AreCellsOf
ground_held flat start held holds =
    subst (λ (c : Cells). Represents start.stage held c) (holds.stand ∙ ap (look start []) (append-nil start.records)) holds.represented
