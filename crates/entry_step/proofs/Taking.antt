-- What a step takes in, over what it was given.
use Rattle.std.proofs.Common.{◌≡◌, ℕ, Option, Some, None, List, [], ◌∷◌, ◌++◌, map, filter, Result, Ok, Err, IfOk, OnOk, OnErr, refl, sym, ◌∙◌, ap, subst}
use mathlib.Core.Path.{fun_ext}
use Rattle.zbx_types.specs.declared.conf.Conf.{Conf}
use Rattle.trigger_state.specs.Stages.{Stage}
use Rattle.zbx_types.specs.declared.entries.Rec.{Rec}
use Rattle.zbx_types.specs.declared.entries.Stored.{Stored}
use Rattle.value_cache.specs.Cells.{CellView}
use Rattle.trigger_state.specs.declared.problems.Open.{Open}
use Rattle.entry_step.specs.declared.occasions.Occasion.{Occasion}
use Rattle.prep_steps.specs.declared.memory.StepMemory.{StepMemory}
use Rattle.preprocess.specs.Draft.{stored_at, failures_of}
use Rattle.preprocess.specs.Cells.{AreSame, Becomes}
use Rattle.preprocess.specs.declared.cells.Cells.{Cells as ItemCells}
use Rattle.preprocess.specs.Cached.{DraftView}
use Rattle.preprocess.specs.declared.visit.Visit.{Visit}
use Rattle.preprocess.proofs.Becoming.{same_becomes}
use Rattle.value_cache.specs.Tokens.{CacheId}
use Rattle.preprocess.specs.Draft.{roomless}
use Rattle.entry_step.specs.Kept.{still_to_come, SeesFor}
use Rattle.conf_index.specs.Timed.{timed_triggers}
use Rattle.entry_step.specs.Due.{due_over}
use Rattle.entry_step.specs.Represents.{CellsView, problems_at}
use Rattle.entry_step.specs.Changes.{is_asked, RunsOver, Absorbed, Drafted, TakesIn, TakesTick}
use Rattle.entry_step.proofs.Members.{each_sub}
use Rattle.entry_step.proofs.Coming.{sees_roomless, came_in}

same_runs : (stage : Stage) (occasion : Occasion) (cells kept : List CellView) (stored more : ℕ → Option Stored) (rows before : List (List Open)) (ids all : List ℕ) (made : List Rec) (next : List (List Open)) → cells ≡ kept → stored ≡ more → rows ≡ before → ids ≡ all
    → RunsOver stage occasion cells stored rows ids made next → RunsOver stage occasion kept more before all made next
same_runs stage occasion cells kept stored more rows before ids all made next c s r i runs =
    subst (λ xs. RunsOver stage occasion xs more before all made next) c
    (subst (λ m. RunsOver stage occasion cells m before all made next) s (subst (λ os. RunsOver stage occasion cells stored os all made next) r (subst (λ is. RunsOver stage occasion cells stored rows is made next) i runs)))

-- what was evaluated over cells was so over what they keep alone
runs_roomless : (stage : Stage) (occasion : Occasion) (cells : List CellView) (stored : ℕ → Option Stored) (before : List (List Open)) (ids : List ℕ) (made : List Rec) (rows : List (List Open))
    → RunsOver stage occasion cells stored before ids made rows → RunsOver stage occasion (map roomless cells) stored before ids made rows
runs_roomless stage occasion cells stored before ids made rows runs = λ items sees tidy.
    runs items (each_sub (SeesFor stage.conf (map roomless cells) stored occasion.now items) (SeesFor stage.conf cells stored occasion.now items) ids (λ id h item calls. sees_roomless stage.conf item cells (stored item) occasion.now (items item) (h item calls)) sees) tidy

-- a value is taken in
pub takes_in : (stage : Stage) (occasion : Occasion) (draft : DraftView) (visits : List Visit) (failures : List Rec) (ids all : List ℕ) (old between new : ItemCells) (problems rows : List (List Open)) (tick : Option ℕ) (cache : CacheId) (before : CellsView) (made : List Rec)
    → before ≡ record { items = map roomless old.cells.items; memories = old.memories.items; problems = problems; tick = tick; cache = cache }
    → draft.visits ≡ visits → failures ≡ failures_of stage.conf occasion.number visits → ids ≡ all → AreSame between old
    → Drafted stage occasion (Some draft) ids failures between.cells.items problems made rows → Becomes occasion.now draft.visits between new
    → TakesIn stage occasion visits all before made (record { items = map roomless new.cells.items; memories = new.memories.items; problems = rows; tick = tick; cache = cache })
takes_in stage occasion draft visits failures ids all old between new problems rows tick cache before made is same fails listed still drafted becomes =
    subst (λ v. TakesIn stage occasion visits all v made after) (sym is) (record {
      judged = drafted.judged;
      runs = subst (λ vs. RunsOver stage occasion (map roomless old.cells.items) (stored_at vs) problems all drafted.judged rows) same (subst (λ xs. RunsOver stage occasion (map roomless old.cells.items) (stored_at draft.visits) problems xs drafted.judged rows) listed
          (subst (λ cells. RunsOver stage occasion cells (stored_at draft.visits) problems ids drafted.judged rows) still.cells
          (runs_roomless stage occasion between.cells.items (stored_at draft.visits) problems ids drafted.judged rows drafted.runs)));
      records = drafted.records ∙ ap (λ fs. fs ++ drafted.judged) fails;
      came = came_in occasion.now visits old new (same_becomes occasion.now visits old between new still (subst (λ vs. Becomes occasion.now vs between new) same becomes));
      tick = refl;
    })
  where
    after : CellsView
    after = record { items = map roomless new.cells.items; memories = new.memories.items; problems = rows; tick = tick; cache = cache }

-- what is kept is the same, whatever room it has
pub same_view : (old between : ItemCells) (problems : List (List Open)) (tick : Option ℕ) (cache : CacheId) (view : CellsView) → AreSame between old → record { items = map roomless old.cells.items; memories = old.memories.items; problems = problems; tick = tick; cache = cache } ≡ view
    → record { items = map roomless between.cells.items; memories = between.memories.items; problems = problems; tick = tick; cache = cache } ≡ view
same_view old between problems tick cache view same is =
    let of_items : List CellView → CellsView = λ items. record { items = items; memories = between.memories.items; problems = problems; tick = tick; cache = cache } in
    let of_memories : List (List StepMemory) → CellsView = λ memories. record { items = map roomless old.cells.items; memories = memories; problems = problems; tick = tick; cache = cache } in
    ap of_items same.cells ∙ ap of_memories same.memories ∙ is

pub same_parts : (between new : ItemCells) (problems rows : List (List Open)) (tick : Option ℕ) (cache : CacheId) (view : CellsView) → new ≡ between → rows ≡ problems → record { items = map roomless between.cells.items; memories = between.memories.items; problems = problems; tick = tick; cache = cache } ≡ view
    → record { items = map roomless new.cells.items; memories = new.memories.items; problems = rows; tick = tick; cache = cache } ≡ view
same_parts between new problems rows tick cache view n r is =
    let of : ItemCells → List (List Open) → CellsView = λ cells opens. record { items = map roomless cells.cells.items; memories = cells.memories.items; problems = opens; tick = tick; cache = cache } in
    ap (λ cells. of cells rows) n ∙ ap (of between) r ∙ is

pub ok_both : {T E : Type 0} (r : Result T E) (P R : T → Type 0) (Q : Type 0) → ((x : T) → P x → Q → R x) → IfOk r P → OnOk r Q → IfOk r R
ok_both (Ok x) P R Q f p q = f x p q
ok_both (Err x) P R Q f p q = tt

pub err_both : {T E : Type 0} (r : Result T E) (P Q R : Type 0) → (P → Q → R) → OnErr r P → OnErr r Q → OnErr r R
err_both (Ok x) P Q R f p q = tt
err_both (Err x) P Q R f p q = f p q

pub err_const : {T E : Type 0} (r : Result T E) (P : Type 0) → P → OnErr r P
err_const (Ok x) P p = tt
err_const (Err x) P p = p

-- at a Tick all triggers that are named are evaluated
pub asked_all : (conf : Conf) (ids : List ℕ) → filter (is_asked conf None) ids ≡ ids
asked_all conf [] = refl
asked_all conf (id ∷ ids) = ap (λ xs. id ∷ xs) (asked_all conf ids)

pub takes_tick : (stage : Stage) (occasion : Occasion) (before after : CellsView) (cells : List CellView) (rows left : List (List Open)) (ids : List ℕ) (judged made : List Rec) → map roomless cells ≡ before.items → rows ≡ before.problems → ids ≡ timed_triggers stage.conf
    → RunsOver stage occasion cells (still_to_come None) rows (filter (is_asked stage.conf None) ids) judged left → made ≡ judged ++ due_over stage occasion.now (problems_at left) → Absorbed stage left (due_over stage occasion.now (problems_at left)) after.problems
    → after.items ≡ before.items → after.memories ≡ before.memories → after.tick ≡ occasion.tick → TakesTick stage occasion before made after
takes_tick stage occasion before after cells rows left ids judged made c r i runs is lands items memories tick = record {
  judged = judged;
  rows = left;
  runs = same_runs stage occasion (map roomless cells) before.items (still_to_come None) (λ id. None) rows before.problems (filter (is_asked stage.conf None) ids) (timed_triggers stage.conf) judged left c (fun_ext (λ id. refl)) r (asked_all stage.conf ids ∙ i)
      (runs_roomless stage occasion cells (still_to_come None) rows (filter (is_asked stage.conf None) ids) judged left runs);
  records = is;
  changes = lands;
  items = items;
  memories = memories;
  tick = tick;
}
