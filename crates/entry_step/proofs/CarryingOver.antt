-- What a Config behind others makes and leaves is what the searches find.
use Rattle.std.proofs.Common.{◌≡◌, ◌≤◌, ℕ, Bool, true, false, cond, not, ◌&&◌, List, [], ◌∷◌, ◌++◌, map, filter, Option, Some, None, IfSome, refl, sym, ◌∙◌, ap, ap₂, subst, option_map, eqb-true, arith}
use Rattle.std.specs.Prelude.{flat_map, nat_le, option_and_then}
use Rattle.std.specs.List.{list_any}
use Rattle.std.specs.Option.{option_map_or, unwrap_or}
use Rattle.std.proofs.lemmas.List.{length-map}
use mathlib.Core.Path.{fun_ext}
use Rattle.zbx_types.specs.Entries.{moment_of}
use Rattle.zbx_types.specs.Ids.{at_id}
use Rattle.zbx_types.specs.Records.{event_of}
use Rattle.zbx_types.specs.declared.conf.Conf.{Conf}
use Rattle.zbx_types.specs.declared.entries.Cause2.TheVariants as causes
use Rattle.zbx_types.specs.declared.entries.Entry.{Entry}
use Rattle.zbx_types.specs.declared.entries.Entry.TheVariants.{Config, Value, Tick}
use Rattle.zbx_types.specs.declared.entries.EventId.{EventId}
use Rattle.zbx_types.specs.declared.entries.Numbered.{Numbered}
use Rattle.zbx_types.specs.declared.entries.Rec.{Rec}
use Rattle.zbx_types.specs.declared.entries.Rec.TheVariants.{Failure, Problem, Recovery, Step, Message}
use Rattle.zbx_types.specs.declared.entries.Stored.{Stored}
use Rattle.zbx_types.specs.declared.items.Item.{Item}
use Rattle.zbx_types.specs.declared.triggers.Trigger.{Trigger}
use Rattle.value_cache.specs.Cells.{CellView, trim}
use Rattle.value_cache.specs.Histories.{IsOrdered}
use Rattle.value_cache.specs.Keeps.{keep_of}
use Rattle.value_cache.proofs.Pruning.{ordered_trim}
use Rattle.preprocess.specs.Carry.{AreCarried, still_kept, carried_values, carried_history, carried_marks, old_item}
use Rattle.preprocess.specs.declared.cells.Cells.{Cells as ItemCells}
use Rattle.preprocess.proofs.Logs.{at_map}
use Rattle.trigger_state.specs.Carry.{is_gone, origin_in, carried_to, carried as rows_carried, gone_of}
use Rattle.trigger_state.specs.Order.{in_making}
use Rattle.trigger_state.specs.Problems.{event_in, opens, recovers, opened, open_of}
use Rattle.trigger_state.specs.Stages.{Stage, home, rank_of}
use Rattle.trigger_state.specs.declared.stage.Origin.{Origin}
use Rattle.trigger_state.specs.declared.problems.Open.{Open}
use Rattle.entry_step.specs.Carry.{removed, next_stage, carried}
use Rattle.entry_step.specs.Cells.{Cells, ItemKey, touches, seen_of, look}
use Rattle.entry_step.specs.Due.{by_making}
use Rattle.entry_step.specs.Each.{Each}
use Rattle.entry_step.specs.Following.{KeepsAll}
use Rattle.entry_step.specs.History.{history_of}
use Rattle.entry_step.specs.InForce.{SuitsWhole, HoldsAt, CarriesOver}
use Rattle.value_cache.specs.Tokens.{CacheId}
use Rattle.preprocess.specs.Draft.{roomless}
use Rattle.entry_step.specs.Kept.{Keeps}
use Rattle.entry_step.specs.Log.{last_moment}
use Rattle.entry_step.specs.Order.{put_by, sorted_by}
use Rattle.conf_index.specs.Order.{order}
use Rattle.entry_step.specs.Records.{recovery_of}
use Rattle.entry_step.specs.Represents.{CellsView, AllAtHome, IsTagged, AllTagged, IsTidy, Represents, problems_at}
use Rattle.entry_step.specs.Start.{Start}
use Rattle.entry_step.specs.Whole.{Point, point_with, point, cells_at, IsTold, FitsWhole}
use Rattle.entry_step.proofs.Coming.{keeps_same, size_roomless}
use Rattle.entry_step.proofs.Following.{keeps_on}
use Rattle.entry_step.proofs.Members.{and_left, each_sub}
use Rattle.entry_step.proofs.Said.{each_flat_map}
use Rattle.entry_step.proofs.Sorting.{each_sorted}
use Rattle.entry_step.proofs.Wholes.{any_entry, stays_told}

-- Two numbers that are the same of each item put a list into the same order
module _ {A : Type 0} (k l : A → ℕ) where
  put_same : (a : A) (xs : List A) → k a ≡ l a → Each (λ x. k x ≡ l x) xs → put_by k a xs ≡ put_by l a xs
  put_same a [] e es = refl
  put_same a (x ∷ xs) e es =
      ap₂ (λ i j. cond (nat_le i j) (a ∷ x ∷ xs) (x ∷ put_by k a xs)) e es.0
      ∙ ap (λ ys. cond (nat_le (l a) (l x)) (a ∷ x ∷ xs) (x ∷ ys)) (put_same a xs e es.1)

  sorted_same : (xs : List A) → Each (λ x. k x ≡ l x) xs → sorted_by k xs ≡ sorted_by l xs
  sorted_same [] e = refl
  sorted_same (x ∷ xs) e = ap (put_by k x) (sorted_same xs e.1) ∙ put_same x (sorted_by l xs) e.0 (each_sorted l (λ y. k y ≡ l y) xs e.1)

-- an open problem keeps the rank of its event
abbrev KeepsRank : Stage → Open → Type 0
KeepsRank stage o = o.rank ≡ rank_of stage (event_in o)

-- What the search finds is of the trigger, and keeps ranks
module _ (stage : Stage) (id : ℕ) where
  its_home : (r : Rec) → opens stage id r ≡ true → home stage (event_of r) ≡ id
  its_home (Problem event now severity suppressed host trigger name tags) e = eqb-true (home stage event) id e
  its_home (Recovery event by now cause) e = cc
  its_home (Failure number host key why) e = cc
  its_home (Step event action step now) e = cc
  its_home (Message event action step recipient subject body) e = cc

  homes_found : (rs : List Rec) → AllAtHome stage id (open_of stage rs id)
  homes_found [] = tt
  homes_found (r ∷ rs) = go (opens stage id r && not (list_any (recovers (event_of r)) rs)) refl (homes_found rs)
    where
      go : (b : Bool) → (opens stage id r && not (list_any (recovers (event_of r)) rs)) ≡ b → AllAtHome stage id (open_of stage rs id)
          → AllAtHome stage id (cond b (opened stage r rs ∷ open_of stage rs id) (open_of stage rs id))
      go true e ih = (its_home r (and_left (opens stage id r) (not (list_any (recovers (event_of r)) rs)) e), ih)
      go false e ih = ih

  ranks_found : (rs : List Rec) → Each (KeepsRank stage) (open_of stage rs id)
  ranks_found [] = tt
  ranks_found (r ∷ rs) = go (opens stage id r && not (list_any (recovers (event_of r)) rs)) (ranks_found rs)
    where
      go : (b : Bool) → Each (KeepsRank stage) (open_of stage rs id) → Each (KeepsRank stage) (cond b (opened stage r rs ∷ open_of stage rs id) (open_of stage rs id))
      go true ih = (refl, ih)
      go false ih = ih

-- so the ranks that problems keep put them into the order of making
making_is : (stage : Stage) (all : ℕ → List Open) → ((id : ℕ) → Each (KeepsRank stage) (all id)) → in_making (flat_map all (order stage.conf)) ≡ by_making stage all
unfolding by_making
making_is stage all ranks =
    let found : List Open = flat_map all (order stage.conf) in
    ap (sorted_by (λ (o : Open). (event_in o).number))
    (sorted_same (λ (o : Open). o.rank) (λ (o : Open). rank_of stage (event_in o)) (sorted_by (λ (o : Open). (event_in o).trigger) found)
    (each_sorted (λ (o : Open). (event_in o).trigger) (KeepsRank stage) found (each_flat_map (KeepsRank stage) all (order stage.conf) ranks)))

map_twice : {A B C : Type 0} (g : B → C) (f : A → B) (xs : List A) → map g (map f xs) ≡ map (λ x. g (f x)) xs
map_twice g f [] = refl
map_twice g f (x ∷ xs) = ap (λ ys. g (f x) ∷ ys) (map_twice g f xs)

-- ---- moments

-- no item has seen a moment behind the last one
seen_by : (flat : List ℕ → Conf) (start : Start) (log : List Numbered) → SuitsWhole flat start log → (i : ℕ) → seen_of (point flat start log).start (point flat start log).since i ≤ last_moment start log
seen_by flat start [] suits i = let l : start.moment ≤ start.moment = omega arith in l
seen_by flat start (e ∷ log) suits i = by_entry e.entry refl (seen_by flat start log suits.0 i)
  where
    p : Point
    p = point flat start log

    plain : seen_of p.start p.since i ≤ last_moment start log → seen_of p.start (e ∷ p.since) i ≤ moment_of e.entry
    plain l = go (touches p.start.stage.conf e.entry (ItemKey i))
      where
        go : (b : Bool) → cond b (moment_of e.entry) (seen_of p.start p.since i) ≤ moment_of e.entry
        go true = omega arith
        go false = let m : last_moment start log ≤ moment_of e.entry = suits.1 in omega arith

    by_entry : (entry : Entry) → e.entry ≡ entry → seen_of p.start p.since i ≤ last_moment start log
        → seen_of (point_with flat p e entry).start (point_with flat p e entry).since i ≤ moment_of e.entry
    by_entry (Config now text) q l = let m : moment_of e.entry ≡ now = ap moment_of q in let n : now ≤ moment_of e.entry = omega arith in n
    by_entry (Value now item time value) q l = plain l
    by_entry (Tick now) q l = plain l

-- ---- what is kept

-- what is kept of an item, with its room and without
keeps_bare : (conf : Conf) (id seen : ℕ) (history : List Stored) (o : Option CellView) → Keeps conf id seen history (option_map roomless o) → Keeps conf id seen history o
keeps_bare conf id seen history None k = k
keeps_bare conf id seen history (Some cell) k = keeps_same conf id seen history (roomless cell) cell refl k

keeps_roomless : (conf : Conf) (id seen : ℕ) (history : List Stored) (o : Option CellView) → Keeps conf id seen history o → Keeps conf id seen history (option_map roomless o)
keeps_roomless conf id seen history None k = k
keeps_roomless conf id seen history (Some cell) k = keeps_same conf id seen history cell (roomless cell) refl k

-- cells with these problems and this first Tick
abbrev pub cells_with : ItemCells → List (List Open) → Option ℕ → CacheId → CellsView
cells_with items problems tick cache = record { items = map roomless items.cells.items; memories = items.memories.items; problems = problems; tick = tick; cache = cache }

keeps_before : (stage : Stage) (before : ItemCells) (problems : List (List Open)) (tick : Option ℕ) (cache : CacheId) (c : Cells) → Represents stage (cells_with before problems tick cache) c
    → KeepsAll stage.conf (λ id. (c (ItemKey id)).seen) (λ id. (c (ItemKey id)).history) (λ id. (c (ItemKey id)).marks) before
keeps_before stage before problems tick cache c holds = record {
  items = sym (size_roomless before.cells.items) ∙ holds.items;
  memories = holds.memories;
  histories_are = λ id. keeps_bare stage.conf id (c (ItemKey id)).seen (c (ItemKey id)).history (at_id before.cells.items id)
      (subst (Keeps stage.conf id (c (ItemKey id)).seen (c (ItemKey id)).history) (at_map roomless before.cells.items id) (holds.histories id));
  marks_are = holds.marks;
}

abbrev InOrder : CellView → Type 0
InOrder cell = IsOrdered cell.values

-- what goes on of values that are in order is in order
module _ (old new : Conf) (now : ℕ) (before after : ItemCells) (went_on : AreCarried old new now before after) (ordered : (id : ℕ) → IfSome (at_id (map roomless before.cells.items) id) InOrder) where
  kept_ordered : (o : Option CellView) → IfSome (option_map roomless o) InOrder → IsOrdered (still_kept now o)
  kept_ordered None h = tt
  kept_ordered (Some cell) h = ordered_trim cell.keep now cell.values h

  values_ordered : (item : Item) → IsOrdered (carried_values old new now before.cells.items item)
  values_ordered item = go (old_item old new item)
    where
      go : (o : Option ℕ) → IsOrdered (still_kept now (option_and_then (at_id before.cells.items) o))
      go None = tt
      go (Some j) = kept_ordered (at_id before.cells.items j) (subst (λ o. IfSome o InOrder) (at_map roomless before.cells.items j) (ordered j))

  after_ordered : (id : ℕ) → IfSome (at_id (map roomless after.cells.items) id) InOrder
  after_ordered id =
      subst (λ o. IfSome o InOrder) (sym (at_map roomless after.cells.items id))
      (go (at_id after.cells.items id) (at_id new.items id)
      (sym (at_map (λ (c : CellView). c.values) after.cells.items id) ∙ ap (λ vs. at_id vs id) went_on.values ∙ at_map (carried_values old new now before.cells.items) new.items id))
    where
      go : (o : Option CellView) (x : Option Item) → option_map (λ (c : CellView). c.values) o ≡ option_map (carried_values old new now before.cells.items) x → IfSome (option_map roomless o) InOrder
      go None x e = tt
      go (Some cell) None e = cc
      go (Some cell) (Some item) e = let same : cell.values ≡ carried_values old new now before.cells.items item = cc in subst IsOrdered (sym same) (values_ordered item)

-- the rows of triggers
row_is : (old new : Conf) (all : ℕ → List Open) (id : ℕ) → problems_at (map (carried_to old new all) new.triggers) id ≡ rows_carried old new all id
unfolding problems_at
row_is old new all id = ap (λ o. unwrap_or o []) (at_map (carried_to old new all) new.triggers id) ∙ go (at_id new.triggers id)
  where
    go : (o : Option Trigger) → unwrap_or (option_map (carried_to old new all) o) [] ≡ option_map_or (carried_to old new all) o []
    go None = refl
    go (Some trigger) = refl

-- what is no item has no history
no_history : (old new : Conf) (now : ℕ) (histories : ℕ → List Stored) (id : ℕ) → at_id new.items id ≡ None → carried_history old new now histories id ≡ []
no_history old new now histories id none = ap (λ x. option_map_or (λ before. trim (keep_of old before) now (histories before)) (option_and_then (old_item old new) x) []) none

-- ---- all of it

-- a Config behind a whole log
module _ (flat : List ℕ → Conf) (start : Start) (log : List Numbered) (number now : ℕ) (text : List ℕ) where
  abbrev e : Numbered
  e = record { number = number; entry = Config now text }

  abbrev p : Point
  p = point flat start log

  abbrev stage : Stage
  stage = p.start.stage

  abbrev conf : Conf
  conf = flat text

  abbrev found : ℕ → List Open
  found = open_of p.start.stage p.records

  abbrev next : Stage
  next = next_stage p.start.stage (flat text) (open_of p.start.stage p.records)

  -- what the searches find behind the Config
  abbrev behind : Cells
  behind = cells_at (point flat start (e ∷ log))

  module _ (fits : FitsWhole flat start (e ∷ log)) where
    cells_are : carried stage conf now (cells_at p) ≡ behind
    cells_are = (any_entry flat start log e fits).1

    tagged_at : (id : ℕ) (os : List Open) → Each (λ (o : Open). IsTold conf number id o.problem) os → AllTagged conf id os
    tagged_at id os = each_sub (λ (o : Open). IsTold conf number id o.problem) (λ (o : Open). IsTagged conf id o.problem) os (λ o t. (t.trigger, t.there, t.tags))

    tidy_behind : IsTidy next behind
    unfolding look
    tidy_behind = record {
      homes = λ id. homes_found next id (p.records ++ removed stage conf number now found);
      tagged = λ id. tagged_at id (open_of next (p.records ++ removed stage conf number now found) id) (stays_told flat start (e ∷ log) fits id);
      absent = no_history stage.conf conf now (history_of p.start p.since);
    }

    module _ (suits : SuitsWhole flat start log) (by : last_moment start log ≤ now) (before after : ItemCells) (problems : List (List Open)) (tick : Option ℕ) (cache : CacheId) (holds : HoldsAt p (cells_with before problems tick cache)) where
      opens_are : problems_at problems ≡ found
      unfolding look
      opens_are = fun_ext (λ id. holds.problems id)

      in_order : in_making (flat_map (problems_at problems) (order stage.conf)) ≡ by_making stage found
      in_order = ap (λ (f : ℕ → List Open). in_making (flat_map f (order stage.conf))) opens_are ∙ making_is stage found (λ id. ranks_found stage id p.records)

      records_are : (gone : List EventId) → gone ≡ gone_of conf (flat_map (problems_at problems) (order stage.conf)) → map (recovery_of number now causes.Removed) gone ≡ removed stage conf number now found
      records_are gone g =
          ap (map (recovery_of number now causes.Removed)) (g ∙ ap (λ (os : List Open). map event_in (filter (is_gone conf) os)) in_order)
          ∙ map_twice (recovery_of number now causes.Removed) event_in (filter (is_gone conf) (by_making stage found))

      stage_is : (origins : List Origin) → origins ≡ map origin_in (filter (λ o. not (is_gone conf o)) (in_making (flat_map (problems_at problems) (order stage.conf)))) → record { conf = conf; origins = origins } ≡ next
      stage_is origins o =
          ap (λ (os : List Origin). (let s : Stage = record { conf = conf; origins = os } in s))
          (o ∙ ap (λ (os : List Open). map origin_in (filter (λ x. not (is_gone conf x)) os)) in_order)

      module _ (went_on : AreCarried stage.conf conf now before after) where
        was_seen : (id : ℕ) → (cells_at p (ItemKey id)).seen ≤ now
        unfolding look
        was_seen id = let l : seen_of p.start p.since id ≤ last_moment start log = seen_by flat start log suits id in omega arith

        kept : KeepsAll conf (λ id. now) (carried_history stage.conf conf now (λ i. (cells_at p (ItemKey i)).history)) (carried_marks stage.conf conf (λ i. (cells_at p (ItemKey i)).marks)) after
        kept =
            keeps_on stage.conf conf now (λ i. (cells_at p (ItemKey i)).seen) (λ i. (cells_at p (ItemKey i)).history) (λ i. (cells_at p (ItemKey i)).marks) before after went_on was_seen
            (keeps_before stage before problems tick cache (cells_at p) holds)

        represented : Represents next (cells_with after (map (carried_to stage.conf conf (problems_at problems)) conf.triggers) tick cache) (carried stage conf now (cells_at p))
        represented = record {
          items = size_roomless after.cells.items ∙ kept.items;
          ordered = after_ordered stage.conf conf now before after went_on holds.ordered;
          memories = kept.memories;
          triggers = length-map conf.triggers (carried_to stage.conf conf (problems_at problems));
          histories = λ id.
              let history : List Stored = carried_history stage.conf conf now (λ i. (cells_at p (ItemKey i)).history) id in
              subst (Keeps conf id now history) (sym (at_map roomless after.cells.items id)) (keeps_roomless conf id now history (at_id after.cells.items id) (kept.histories_are id));
          marks = kept.marks_are;
          problems = λ id. row_is stage.conf conf (problems_at problems) id ∙ ap (λ (f : ℕ → List Open). rows_carried stage.conf conf f id) (fun_ext (λ i. holds.problems i));
          tick = holds.tick;
          tidy = subst (IsTidy next) (sym cells_are) tidy_behind;
        }

-- what is left of the old configuration's open problems, in the new one
pub record AreLeft (old : Stage) (new : Conf) (problems rows : List (List Open)) (gone : List EventId) (origins : List Origin) : Type 0 where
  pub rows_are : rows ≡ map (carried_to old.conf new (problems_at problems)) new.triggers
  pub gone_are : gone ≡ gone_of new (flat_map (problems_at problems) (order old.conf))
  pub origins_are : origins ≡ map origin_in (filter (λ o. not (is_gone new o)) (in_making (flat_map (problems_at problems) (order old.conf))))

carries_with : (old : Stage) (new : Conf) (number now : ℕ) (before after : ItemCells) (problems rows : List (List Open)) (tick : Option ℕ) (cache : CacheId) (gone : List EventId) (origins : List Origin)
    → AreLeft old new problems rows gone origins → AreCarried old.conf new now before after
    → CarriesOver old new number now (cells_with before problems tick cache) (map (recovery_of number now causes.Removed) gone) (record { conf = new; origins = origins }) (cells_with after rows tick cache)
unfolding CarriesOver
carries_with old new number now before after problems rows tick cache gone origins left went_on = λ flat start log text fits suits by is same holds.
    let e : Numbered = record { number = number; entry = Config now text } in
    let p : Point = point flat start log in
    let a : AreLeft p.start.stage (flat text) problems rows gone origins =
    subst (λ (s : Stage). AreLeft s (flat text) problems rows gone origins) (sym same) (subst (λ (c : Conf). AreLeft old c problems rows gone origins) (sym is) left) in
    let w : AreCarried p.start.stage.conf (flat text) now before after =
    subst (λ (s : Stage). AreCarried s.conf (flat text) now before after) (sym same) (subst (λ (c : Conf). AreCarried old.conf c now before after) (sym is) went_on) in (
      records_are flat start log number now text fits suits by before after problems tick cache holds gone a.gone_are,
      ap (λ (c : Conf). (let s : Stage = record { conf = c; origins = origins } in s)) (sym is) ∙ stage_is flat start log number now text fits suits by before after problems tick cache holds origins a.origins_are,
      subst (λ (c : Cells). Represents (point flat start (e ∷ log)).start.stage (cells_with after rows tick cache) c) (cells_are flat start log number now text fits)
          (subst (λ (rs : List (List Open)). Represents (point flat start (e ∷ log)).start.stage (cells_with after rs tick cache) (carried p.start.stage (flat text) now (cells_at p))) (sym a.rows_are)
          (represented flat start log number now text fits suits by before after problems tick cache holds w)),
    )

-- the same, as the code comes by it
pub left_is : (old : Stage) (new a b : Conf) (ids : List ℕ) (shown problems rows : List (List Open)) (gone : List EventId) (origins : List Origin)
    → a ≡ old.conf → b ≡ new → ids ≡ order old.conf → shown ≡ problems → rows ≡ map (carried_to a b (problems_at shown)) b.triggers → gone ≡ gone_of b (flat_map (problems_at shown) ids)
    → origins ≡ map origin_in (filter (λ o. not (is_gone b o)) (in_making (flat_map (problems_at shown) ids))) → AreLeft old new problems rows gone origins
left_is old new a b ids shown problems rows gone origins is_old is_new is_order is_shown r g o = record {
  rows_are = r ∙ ap (λ (x : Conf). map (carried_to x b (problems_at shown)) b.triggers) is_old ∙ ap (λ (x : Conf). map (carried_to old.conf x (problems_at shown)) x.triggers) is_new
      ∙ ap (λ (x : List (List Open)). map (carried_to old.conf new (problems_at x)) new.triggers) is_shown;
  gone_are = g ∙ ap (λ (x : Conf). gone_of x (flat_map (problems_at shown) ids)) is_new ∙ ap (λ (x : List (List Open)). gone_of new (flat_map (problems_at x) ids)) is_shown
      ∙ ap (λ (x : List ℕ). gone_of new (flat_map (problems_at problems) x)) is_order;
  origins_are = o ∙ ap (λ (x : Conf). map origin_in (filter (λ u. not (is_gone x u)) (in_making (flat_map (problems_at shown) ids)))) is_new
      ∙ ap (λ (x : List (List Open)). map origin_in (filter (λ u. not (is_gone new u)) (in_making (flat_map (problems_at x) ids)))) is_shown
      ∙ ap (λ (x : List ℕ). map origin_in (filter (λ u. not (is_gone new u)) (in_making (flat_map (problems_at problems) x)))) is_order;
}

pub went_on_is : (old : Stage) (new a b : Conf) (now : ℕ) (before after : ItemCells) → a ≡ old.conf → b ≡ new → AreCarried a b now before after → AreCarried old.conf new now before after
went_on_is old new a b now before after is_old is_new w = subst (λ (x : Conf). AreCarried old.conf x now before after) is_new (subst (λ (x : Conf). AreCarried x b now before after) is_old w)

pub carries : (old was next : Stage) (number now : ℕ) (held : CellsView) (before after : ItemCells) (problems rows : List (List Open)) (tick : Option ℕ) (cache : CacheId) (gone : List EventId) (origins : List Origin) (made : List Rec)
    → cells_with before problems tick cache ≡ held → AreLeft old was.conf problems rows gone origins → AreCarried old.conf was.conf now before after
    → made ≡ map (recovery_of number now causes.Removed) gone → next ≡ record { conf = was.conf; origins = origins }
    → CarriesOver old was.conf number now held made next (cells_with after rows tick cache)
carries old was next number now held before after problems rows tick cache gone origins made v left w m s =
    subst (λ (x : CellsView). CarriesOver old was.conf number now x made next (cells_with after rows tick cache)) v
    (subst (λ (x : List Rec). CarriesOver old was.conf number now (cells_with before problems tick cache) x next (cells_with after rows tick cache)) (sym m)
    (subst (λ (x : Stage). CarriesOver old was.conf number now (cells_with before problems tick cache) (map (recovery_of number now causes.Removed) gone) x (cells_with after rows tick cache)) (sym s)
    (carries_with old was.conf number now before after problems rows tick cache gone origins left w)))
