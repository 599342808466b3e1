-- A Config behind starts that are alike, or sound.
use Rattle.std.proofs.Common.{◌≡◌, ◌≤◌, ◌<◌, ◌⊎◌, ◌&&◌, ℕ, suc, ◌+◌, Bool, true, false, cond, not, Option, Some, None, List, [], ◌∷◌, ◌++◌, map, filter, refl, sym, ◌∙◌, ap, subst, append-nil, arith}
use mathlib.Core.Path.{fun_ext}
use Rattle.std.specs.Prelude.{option_and_then}
use Rattle.std.specs.Option.{option_map_or}
use Rattle.std.specs.Str.{bytes_eq}
use Rattle.zbx_types.specs.Hosts.{host_name}
use Rattle.zbx_types.specs.Ids.{at_id}
use Rattle.zbx_types.specs.Records.{event_of}
use Rattle.zbx_types.specs.declared.conf.Conf.{Conf}
use Rattle.zbx_types.specs.declared.entries.Cause2.TheVariants as causes
use Rattle.zbx_types.specs.declared.entries.EventId.{EventId}
use Rattle.zbx_types.specs.declared.entries.Rec.{Rec}
use Rattle.zbx_types.specs.declared.entries.Rec.TheVariants.{Failure, Problem, Recovery, Step, Message}
use Rattle.zbx_types.specs.declared.entries.Stored.{Stored}
use Rattle.zbx_types.specs.declared.items.Item.{Item}
use Rattle.zbx_types.specs.declared.items.ValueType.{ValueType}
use Rattle.zbx_types.specs.declared.items.ValueType.TheVariants as type
use Rattle.zbx_types.specs.declared.triggers.Trigger.{Trigger}
use Rattle.zbx_types.proofs.RowLemmas.{at_suc}
use Rattle.prep_steps.specs.declared.memory.StepMemory.{StepMemory}
use Rattle.preprocess.specs.Carry.{same_type, goes_on_as, old_item, carried_history, carried_for, carried_marks}
use Rattle.value_cache.specs.Cells.{trim}
use Rattle.value_cache.specs.Histories.{IsOrdered}
use Rattle.value_cache.specs.Keeps.{keep_of}
use Rattle.value_cache.proofs.Pruning.{ordered_trim}
use Rattle.trigger_state.specs.Carry.{is_gone, carried_to, carried as rows_carried}
use Rattle.trigger_state.specs.Problems.{event_in, opens, recovers, opened, open_of}
use Rattle.trigger_state.specs.Stages.{Stage, id_named, rank_of}
use Rattle.trigger_state.specs.declared.problems.Open.{Open}
use Rattle.entry_step.specs.Carry.{removed, next_start}
use Rattle.entry_step.specs.Cells.{look}
use Rattle.entry_step.specs.Due.{by_making}
use Rattle.entry_step.specs.Each.{Each, In, EachPair}
use Rattle.entry_step.specs.History.{marks_of}
use Rattle.entry_step.specs.Named.{AreDistinct}
use Rattle.entry_step.specs.Records.{recovery_of}
use Rattle.entry_step.specs.Represents.{IsTagged}
use Rattle.entry_step.specs.Start.{Start}
use Rattle.entry_step.specs.Whole.{IsTold, AreTold}
use Rattle.entry_step.proofs.Finding.{at_place}
use Rattle.entry_laws.specs.Rising.{steps_run, RiseByOne, StandsBehind, IsUpTo}
use Rattle.entry_step.proofs.Making.{pairs_filter}
use Rattle.entry_step.proofs.Members.{each_append, each_at, each_from, each_kept, each_sub, filter_map, in_map}
use Rattle.entry_step.proofs.Moving.{carried_opens, told_next, origins_next}
use Rattle.entry_laws.proofs.Runs.{runs_append}
use Rattle.std.specs.List.{list_any}
use Rattle.base_laws.specs.Alike.{IsMadeBefore, unranked, IsOpen, AlikeOpens, AreAlike}
use Rattle.base_laws.specs.Sound.{IsOfType, ComesFirst, AreInOrder, IsSound}
use Rattle.base_laws.proofs.Absorbing.{map_over}
use Rattle.base_laws.proofs.Again.{each_trim}
use Rattle.base_laws.proofs.Alike.{open_is}
use Rattle.base_laws.proofs.Central.{making_alike}
use Rattle.base_laws.proofs.Making.{pairs_with}
use Rattle.base_laws.proofs.Opens.{events_unranked}
use Rattle.base_laws.proofs.Retold.{homes_kept}

-- what a Config leaves behind a start
abbrev pub config_start : Start → Conf → ℕ → ℕ → Start
config_start start new n now = next_start start [] new n now start.records

-- The rank that an open problem keeps is that of its event
rank_kept : (stage : Stage) (rs : List Rec) (id : ℕ) → Each (λ (o : Open). o.rank ≡ rank_of stage (event_in o)) (open_of stage rs id)
rank_kept stage [] id = tt
rank_kept stage (r ∷ rs) id = go (opens stage id r) (not (list_any (recovers (event_of r)) rs)) (rank_kept stage rs id)
  where
    go : (a b : Bool) → Each (λ (o : Open). o.rank ≡ rank_of stage (event_in o)) (open_of stage rs id) → Each (λ (o : Open). o.rank ≡ rank_of stage (event_in o)) (cond (a && b) (opened stage r rs ∷ open_of stage rs id) (open_of stage rs id))
    go true true ih = (refl, ih)
    go true false ih = ih
    go false b ih = ih

-- the order of making goes by ranks
by_ranks : (stage other : Stage) (v w : EventId) → rank_of stage v ≡ rank_of other v → rank_of stage w ≡ rank_of other w → IsMadeBefore stage v w → IsMadeBefore other v w
by_ranks stage other v w p q h =
    subst (λ (a : ℕ). By a (rank_of other w)) p (subst (λ (b : ℕ). By (rank_of stage v) b) q h)
  where
    By : ℕ → ℕ → Type 0
    By a b = (v.number < w.number) ⊎ ((v.number ≡ w.number) × ((a < b) ⊎ ((a ≡ b) × (v.trigger ≤ w.trigger))))

-- an item goes on as one of the same type
type_is : (a b : ValueType) → same_type a b ≡ true → a ≡ b
type_is type.Number type.Number q = refl
type_is type.Words type.Words q = refl
type_is type.Number type.Words q = cc
type_is type.Words type.Number q = cc

last_of : (a b c : Bool) → (a && b && c) ≡ true → c ≡ true
last_of true true c q = q
last_of true false c q = cc
last_of false b c q = cc

pub same_type_found : (old new : Conf) (item : Item) (id : ℕ) → old_item old new item ≡ Some id → (before : Item) × (at_id old.items id ≡ Some before) × (before.value_type ≡ item.value_type)
same_type_found old new item id q =
    let found = at_place (λ before. goes_on_as old new before item) 1 old.items id q in
    let at : id ≡ suc found.0 = found.1 ∙ (let n : 1 + found.0 ≡ suc found.0 = omega arith in n) in
    let before = (found.2).0 in (
      before,
      ap (at_id old.items) at ∙ at_suc old.items found.0 ∙ (found.2).1,
      type_is before.value_type item.value_type
          (last_of (bytes_eq (host_name (at_id old.hosts before.host)) (host_name (at_id new.hosts item.host))) (bytes_eq before.key item.key) (same_type before.value_type item.value_type) (found.2).2),
    )

-- One start
module _ (start : Start) (new : Conf) (n now : ℕ) (distinct : AreDistinct start.stage.conf) (distinct_new : AreDistinct new) (told : AreTold start.stage start.number start.records) (later : start.number < n) where
  abbrev next : Start
  next = config_start start new n now

  abbrev old : Stage
  old = start.stage

  upto : start.number ≤ n
  upto = omega (arith, later)

  rows_are : (t : ℕ) → open_of next.stage next.records t ≡ rows_carried old.conf new (open_of old start.records) t
  rows_are t = carried_opens old new start.number n now start.records distinct distinct_new told t

  -- what goes on was open, and keeps its rank
  abbrev Goes : Open → Type 0
  Goes o = IsOpen (open_of old start.records) (event_in o) × (o.rank ≡ rank_of old (event_in o))

  all_go : (id : ℕ) → Each Goes (open_of old start.records id)
  all_go id = each_from Goes (open_of old start.records id) (λ o i. ((id, in_map event_in (open_of old start.records id) o i), each_at (λ (x : Open). x.rank ≡ rank_of old (event_in x)) (open_of old start.records id) (rank_kept old start.records id) o i))

  abbrev stay : Open → Bool
  stay o = not (is_gone new o)

  carried_go : (t : ℕ) → Each Goes (rows_carried old.conf new (open_of old start.records) t)
  carried_go t = at (at_id new.triggers t)
    where
      at : (x : Option Trigger) → Each Goes (option_map_or (carried_to old.conf new (open_of old start.records)) x [])
      at None = tt
      at (Some u) = by_name (id_named old.conf (host_name (at_id new.hosts u.host)) u.name)
        where
          by_name : (y : Option ℕ) → Each Goes (filter stay (option_map_or (open_of old start.records) y []))
          by_name None = tt
          by_name (Some j) = each_kept Goes stay (open_of old start.records j) (all_go j)

  abbrev Went : EventId → Type 0
  Went v = IsOpen (open_of old start.records) v × (rank_of next.stage v ≡ rank_of old v)

  went : (t : ℕ) → Each (λ o. Went (event_in o)) (open_of next.stage next.records t)
  went t =
      both (open_of next.stage next.records t) (subst (Each Goes) (sym (rows_are t)) (carried_go t)) (rank_kept next.stage next.records t)
    where
      both : (os : List Open) → Each Goes os → Each (λ (o : Open). o.rank ≡ rank_of next.stage (event_in o)) os → Each (λ o. Went (event_in o)) os
      both [] a b = tt
      both (o ∷ os) a b = (((a.0).0, sym b.0 ∙ (a.0).1), both os a.1 b.1)

  pub all_went : (v : EventId) → IsOpen (open_of next.stage next.records) v → Went v
  all_went v i = open_is Went (open_of next.stage next.records) went v i

  pub next_told : AreTold next.stage n next.records
  next_told = told_next old new start.number n now start.records distinct distinct_new told upto

  -- a sound start leaves a sound one
  quiet : (gs : List Open) → Each (λ r. Unit {0}) (map (λ (g : Open). recovery_of n now causes.Removed (event_in g)) gs)
  quiet [] = tt
  quiet (g ∷ gs) = (tt, quiet gs)

  abbrev gone : List Open
  gone = filter (is_gone new) (by_making old (open_of old start.records))

  recoveries_upto : (gs : List Open) → Each (IsUpTo n) (map (λ (g : Open). recovery_of n now causes.Removed (event_in g)) gs)
  recoveries_upto [] = tt
  recoveries_upto (g ∷ gs) = (tt, recoveries_upto gs)

  behind_any : (r : Rec) (gs : List Open) → Each (StandsBehind r) (map (λ (g : Open). recovery_of n now causes.Removed (event_in g)) gs)
  behind_any r [] = tt
  behind_any r (g ∷ gs) = (tt, behind_any r gs)

  first_any : (r : Rec) (gs : List Open) → Each (ComesFirst r) (map (λ (g : Open). recovery_of n now causes.Removed (event_in g)) gs)
  first_any r [] = tt
  first_any r (g ∷ gs) = (tt, first_any r gs)

  no_runs : (e : EventId) (a : List ℕ) (gs : List Open) → steps_run e a (map (λ (g : Open). recovery_of n now causes.Removed (event_in g)) gs) ≡ []
  no_runs e a [] = refl
  no_runs e a (g ∷ gs) = no_runs e a gs

  pairs_then : (R : Rec → Rec → Type 0) (xs ys : List Rec) → EachPair R xs → ((r : Rec) → Each (R r) ys) → EachPair R ys → EachPair R (xs ++ ys)
  pairs_then R [] ys a b c = c
  pairs_then R (x ∷ xs) ys a b c = (each_append (R x) xs ys a.0 (b x), pairs_then R xs ys a.1 b c)

  pairs_any : (R : Rec → Rec → Type 0) → ((r : Rec) (gs : List Open) → Each (R r) (map (λ (g : Open). recovery_of n now causes.Removed (event_in g)) gs)) → (gs : List Open) → EachPair R (map (λ (g : Open). recovery_of n now causes.Removed (event_in g)) gs)
  pairs_any R f [] = tt
  pairs_any R f (g ∷ gs) = (f (recovery_of n now causes.Removed (event_in g)) gs, pairs_any R f gs)

  weaken : (r : Rec) → IsUpTo start.number r → IsUpTo n r
  weaken (Problem event t severity suppressed host trigger name tags) u = let l = upto in omega arith
  weaken (Step event action step t) u = let l = upto in omega arith
  weaken (Failure number host key why) u = tt
  weaken (Recovery event by t cause) u = tt
  weaken (Message event action step recipient subject body) u = tt

  module _ (sound : IsSound start) where
    carried_order : (t : ℕ) → AreInOrder old (rows_carried old.conf new (open_of old start.records) t)
    carried_order t = at (at_id new.triggers t)
      where
        at : (x : Option Trigger) → AreInOrder old (option_map_or (carried_to old.conf new (open_of old start.records)) x [])
        at None = tt
        at (Some u) = by_name (id_named old.conf (host_name (at_id new.hosts u.host)) u.name)
          where
            by_name : (y : Option ℕ) → AreInOrder old (filter stay (option_map_or (open_of old start.records) y []))
            by_name None = tt
            by_name (Some j) = pairs_filter (λ (o x : Open). IsMadeBefore old (event_in o) (event_in x)) stay (open_of old start.records j) (sound.order j)

    next_order : (t : ℕ) → AreInOrder next.stage (open_of next.stage next.records t)
    next_order t =
        pairs_with (λ o. Went (event_in o)) (λ (o x : Open). IsMadeBefore old (event_in o) (event_in x)) (λ (o x : Open). IsMadeBefore next.stage (event_in o) (event_in x)) (open_of next.stage next.records t)
        (λ o x p q h. by_ranks old next.stage (event_in o) (event_in x) (sym p.1) (sym q.1) h) (went t)
        (subst (AreInOrder old) (sym (rows_are t)) (carried_order t))

    -- an item that goes on has the same type
    ordered : (x : Option ℕ) → IsOrdered (option_map_or (λ before. trim (keep_of old.conf before) now (start.histories before)) x [])
    ordered None = tt
    ordered (Some before) = ordered_trim (keep_of old.conf before) now (start.histories before) (sound.ordered before)

    typed : (item : Item) (x : Option ℕ) → old_item old.conf new item ≡ x → Each (λ s. IsOfType item.value_type s.value) (option_map_or (λ before. trim (keep_of old.conf before) now (start.histories before)) x [])
    typed item None q = tt
    typed item (Some before) q =
        let found = same_type_found old.conf new item before q in
        each_trim (λ s. IsOfType item.value_type s.value) (keep_of old.conf before) now (start.histories before)
        (subst (λ t. Each (λ s. IsOfType t s.value) (start.histories before)) found.2 (sound.types before found.0 found.1))

    pub next_sound : IsSound next
    unfolding look marks_of
    next_sound = record {
      good = record {
        tidy = record {
          homes = homes_kept next.stage next.records;
          tagged = λ id. each_sub (λ o. IsTold new n id o.problem) (λ o. IsTagged new id o.problem) (open_of next.stage next.records id) (λ o t. (t.trigger, t.there, t.tags)) (next_told id);
          absent = λ id none. ap (λ x. option_map_or (λ before. trim (keep_of old.conf before) now (start.histories before)) (option_and_then (old_item old.conf new) x) []) none;
        };
        origins = origins_next old new start.number n now start.records distinct distinct_new told upto;
      };
      steps = record {
        upto = each_append (IsUpTo n) start.records (map (λ (g : Open). recovery_of n now causes.Removed (event_in g)) gone) (each_sub (IsUpTo start.number) (IsUpTo n) start.records weaken sound.steps.upto) (recoveries_upto gone);
        behind = pairs_then StandsBehind start.records (map (λ (g : Open). recovery_of n now causes.Removed (event_in g)) gone) sound.steps.behind (λ r. behind_any r gone) (pairs_any StandsBehind behind_any gone);
        rise = λ event action. subst RiseByOne (sym (runs_append event action start.records (map (λ (g : Open). recovery_of n now causes.Removed (event_in g)) gone) ∙ ap (λ xs. steps_run event action start.records ++ xs) (no_runs event action gone) ∙ append-nil (steps_run event action start.records))) (sound.steps.rise event action);
      };
      numbers = pairs_then ComesFirst start.records (map (λ (g : Open). recovery_of n now causes.Removed (event_in g)) gone) sound.numbers (λ r. first_any r gone) (pairs_any ComesFirst first_any gone);
      order = next_order;
      ordered = λ id. ordered (option_and_then (old_item old.conf new) (at_id new.items id));
      types = λ id item there. subst (λ x. Each (λ s. IsOfType item.value_type s.value) (option_map_or (λ before. trim (keep_of old.conf before) now (start.histories before)) (option_and_then (old_item old.conf new) x) [])) (sym there) (typed item (old_item old.conf new item) refl);
      absent = λ id none. ap (λ x. option_map_or (carried_for old.conf new start.marks) x []) none;
    }

-- Two starts that are alike
module _ (one other : Start) (new : Conf) (n now : ℕ) (distinct : AreDistinct one.stage.conf) (distinct_new : AreDistinct new) (told : AreTold one.stage one.number one.records) (told_too : AreTold other.stage other.number other.records) (later : one.number < n) (late : one.moment ≤ now) (same : AreAlike one other) where
  distinct_too : AreDistinct other.stage.conf
  distinct_too = subst AreDistinct same.conf distinct

  later_too : other.number < n
  later_too = subst (λ m. m < n) same.number later

  abbrev all : ℕ → List Open
  all = open_of one.stage one.records

  abbrev rows : ℕ → List Open
  rows = open_of other.stage other.records

  alike : AlikeOpens one.stage other.stage one.number all rows
  unfolding look
  alike = record { same = same.cells.opens.same; homes = same.cells.opens.homes; homes_too = same.cells.opens.homes_too; upto = same.cells.opens.upto; order = same.cells.opens.order }

  pub removed_alike : removed one.stage new n now all ≡ removed other.stage new n now rows
  removed_alike =
      told_of (by_making one.stage all) ∙ ap (λ os. map (λ (o : Open). recovery_of n now causes.Removed (event_in o)) (filter (is_gone new) os)) (making_alike one.stage other.stage one.number all rows same.conf alike)
      ∙ sym (told_of (by_making other.stage rows))
    where
      told_of : (os : List Open) → map (λ (o : Open). recovery_of n now causes.Removed (event_in o)) (filter (is_gone new) os) ≡ map (λ (o : Open). recovery_of n now causes.Removed (event_in o)) (filter (is_gone new) (map unranked os))
      told_of os =
          sym (map_over (λ (o : Open). recovery_of n now causes.Removed (event_in o)) unranked (filter (is_gone new) os))
          ∙ ap (map (λ (o : Open). recovery_of n now causes.Removed (event_in o))) (sym (filter_map (is_gone new) unranked os))

  abbrev next_one : Start
  next_one = config_start one new n now

  abbrev next_other : Start
  next_other = config_start other new n now

  carried_alike : (t : ℕ) → map unranked (rows_carried one.stage.conf new all t) ≡ map unranked (rows_carried other.stage.conf new rows t)
  carried_alike t = at (at_id new.triggers t)
    where
      stay : Open → Bool
      stay o = not (is_gone new o)

      kept : (xs ys : List Open) → map unranked xs ≡ map unranked ys → map unranked (filter stay xs) ≡ map unranked (filter stay ys)
      kept xs ys e = sym (filter_map stay unranked xs) ∙ ap (filter stay) e ∙ filter_map stay unranked ys

      by_name : (y : Option ℕ) → map unranked (filter stay (option_map_or all y [])) ≡ map unranked (filter stay (option_map_or rows y []))
      by_name None = refl
      by_name (Some j) = kept (all j) (rows j) (alike.same j)

      at : (x : Option Trigger) → map unranked (option_map_or (carried_to one.stage.conf new all) x []) ≡ map unranked (option_map_or (carried_to other.stage.conf new rows) x [])
      at None = refl
      at (Some u) =
          by_name (id_named one.stage.conf (host_name (at_id new.hosts u.host)) u.name)
          ∙ ap (λ (conf : Conf). map unranked (filter stay (option_map_or rows (id_named conf (host_name (at_id new.hosts u.host)) u.name) []))) same.conf

  rows_alike : (t : ℕ) → map unranked (open_of next_one.stage next_one.records t) ≡ map unranked (open_of next_other.stage next_other.records t)
  rows_alike t =
      ap (map unranked) (rows_are one new n now distinct distinct_new told later t) ∙ carried_alike t
      ∙ sym (ap (map unranked) (rows_are other new n now distinct_too distinct_new told_too later_too t))

  open_too : (v : EventId) → IsOpen (open_of next_one.stage next_one.records) v → IsOpen (open_of next_other.stage next_other.records) v
  open_too v i = (i.0, subst (In v) (sym (events_unranked (open_of next_one.stage next_one.records i.0)) ∙ ap (map event_in) (rows_alike i.0) ∙ events_unranked (open_of next_other.stage next_other.records i.0)) i.1)

  order_too : (v w : EventId) → IsOpen (open_of next_one.stage next_one.records) v → IsOpen (open_of next_one.stage next_one.records) w → IsMadeBefore next_one.stage v w → IsMadeBefore next_other.stage v w
  order_too v w i j h =
      let a = all_went one new n now distinct distinct_new told later v i in
      let b = all_went one new n now distinct distinct_new told later w j in
      let c = all_went other new n now distinct_too distinct_new told_too later_too v (open_too v i) in
      let d = all_went other new n now distinct_too distinct_new told_too later_too w (open_too w j) in
      by_ranks other.stage next_other.stage v w (sym c.1) (sym d.1) (alike.order v w a.0 b.0 (by_ranks next_one.stage one.stage v w a.1 b.1 h))

  history_alike : carried_history one.stage.conf new now one.histories ≡ carried_history other.stage.conf new now other.histories
  unfolding look
  history_alike = fun_ext (λ id.
      at (option_and_then (old_item one.stage.conf new) (at_id new.items id))
      ∙ ap (λ (conf : Conf). option_map_or (λ before. trim (keep_of conf before) now (other.histories before)) (option_and_then (old_item conf new) (at_id new.items id)) []) same.conf)
    where
      at : (x : Option ℕ) → option_map_or (λ before. trim (keep_of one.stage.conf before) now (one.histories before)) x [] ≡ option_map_or (λ before. trim (keep_of one.stage.conf before) now (other.histories before)) x []
      at None = refl
      at (Some before) = (same.cells.items before).kept now late

  marks_alike : carried_marks one.stage.conf new one.marks ≡ carried_marks other.stage.conf new other.marks
  unfolding look marks_of
  marks_alike =
      ap (carried_marks one.stage.conf new) (fun_ext (λ id. (same.cells.items id).marks))
      ∙ ap (λ (conf : Conf). carried_marks conf new other.marks) same.conf

  next_ordered : (id : ℕ) → IsOrdered (carried_history one.stage.conf new now one.histories id)
  unfolding look
  next_ordered id = at (option_and_then (old_item one.stage.conf new) (at_id new.items id))
    where
      at : (x : Option ℕ) → IsOrdered (option_map_or (λ before. trim (keep_of one.stage.conf before) now (one.histories before)) x [])
      at None = tt
      at (Some before) = ordered_trim (keep_of one.stage.conf before) now (one.histories before) (same.cells.items before).ordered

  tick_alike : one.tick ≡ other.tick
  unfolding look
  tick_alike = same.cells.tick

  pub next_alike : AreAlike next_one next_other
  unfolding look marks_of
  next_alike = record {
    conf = refl;
    number = refl;
    moment = refl;
    cells = record {
      origins = origins_next one.stage new one.number n now one.records distinct distinct_new told (upto one new n now distinct distinct_new told later);
      origins_too = origins_next other.stage new other.number n now other.records distinct_too distinct_new told_too (upto other new n now distinct_too distinct_new told_too later_too);
      items = λ id. record {
        marks = ap (λ (m : ℕ → List StepMemory). m id) marks_alike;
        ordered = next_ordered id;
        ordered_too = subst IsOrdered (ap (λ (h : ℕ → List Stored). h id) history_alike) (next_ordered id);
        kept = λ later l. ap (λ (h : ℕ → List Stored). trim (keep_of new id) later (h id)) history_alike;
      };
      opens = record {
        same = rows_alike;
        homes = homes_kept next_one.stage next_one.records;
        homes_too = homes_kept next_other.stage next_other.records;
        upto = open_is (λ v. v.number ≤ n) (open_of next_one.stage next_one.records) (λ id. each_sub (λ o. IsTold new n id o.problem) (λ o. (event_in o).number ≤ n) (open_of next_one.stage next_one.records id) (λ o t. t.upto) (next_told one new n now distinct distinct_new told later id));
        order = order_too;
      };
      tick = tick_alike;
    };
  }
