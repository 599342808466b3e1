-- What the cells of a run stand for.
use Rattle.std.specs.Prelude.{◌≡◌, ◌≤◌, ℕ, true, List, [], length, Option, Some, None, IfSome}
use Rattle.std.specs.Option.{unwrap_or}
use Rattle.zbx_types.specs.Ids.{at_id}
use Rattle.zbx_types.specs.declared.conf.Conf.{Conf}
use Rattle.zbx_types.specs.declared.entries.Numbered.{Numbered}
use Rattle.zbx_types.specs.declared.entries.Rec.{Rec}
use Rattle.zbx_types.specs.declared.triggers.Trigger.{Trigger}
use Rattle.event_correlation.specs.Laws.{HasTagsOf}
use Rattle.entry_step.specs.Each.{Each}
use Rattle.zbx_types.specs.Entries.{moment_of}
use Rattle.entry_step.specs.Log.{IsFitting}
use Rattle.trigger_state.specs.Stages.{Stage, OwnsEvents, home}
use Rattle.trigger_state.specs.Problems.{event_in}
use Rattle.prep_steps.specs.declared.memory.StepMemory.{StepMemory}
use Rattle.preprocess.specs.Chains.{listed}
use Rattle.value_cache.specs.Cells.{CellView}
use Rattle.value_cache.specs.Histories.{IsOrdered}
use Rattle.value_cache.specs.Tokens.{CacheId}
use Rattle.entry_step.specs.Kept.{Keeps}
use Rattle.entry_step.specs.Cells.{Cells, ItemKey, TriggerKey, TickKey, opens_in, touches, records, after, AreCellsOf}
use Rattle.trigger_state.specs.declared.problems.Open.{Open}
use Rattle.entry_step.specs.Start.{Start}

-- the cells of the items, what their steps remember and the open problems of each trigger, in the order of ids, the first
-- Tick, and the cache in which the values of the cells stand
pub record CellsView : Type 0 where
  pub items : List CellView
  pub memories : List (List StepMemory)
  pub problems : List (List Open)
  pub tick : Option ℕ
  pub cache : CacheId

-- the open problems of the trigger with this id
unfoldable pub problems_at : List (List Open) → ℕ → List Open
problems_at rows id = unwrap_or (at_id rows id) []

-- each open problem is of the trigger with this id
abbrev pub AllAtHome : Stage → ℕ → List Open → Type 0
AllAtHome stage id os = Each (λ o. home stage (event_in o) ≡ id) os

-- a problem has, in order, the names of the tags of the trigger with this id, which is there
abbrev pub IsTagged : Conf → ℕ → Rec → Type 0
IsTagged conf id problem = (trigger : Trigger) × (at_id conf.triggers id ≡ Some trigger) × HasTagsOf trigger problem

-- each open problem has the names of the tags of the trigger with this id
abbrev pub AllTagged : Conf → ℕ → List Open → Type 0
AllTagged conf id os = Each (λ o. IsTagged conf id o.problem) os

-- Each open problem is in the cell of its own trigger and has the names of its tags, and what is no item of the
-- configuration has no history.
pub record IsTidy (stage : Stage) (c : Cells) : Type 0 where
  pub homes : (id : ℕ) → AllAtHome stage id (opens_in c id)
  pub tagged : (id : ℕ) → AllTagged stage.conf id (opens_in c id)
  pub absent : (id : ℕ) → at_id stage.conf.items id ≡ None → (c (ItemKey id)).history ≡ []

-- What a run keeps represents cells: the same open problems and first Tick, and of each item what its steps remember
-- and what stands for its history from the last moment on that its cell has seen. The cells are tidy.
pub record Represents (stage : Stage) (held : CellsView) (c : Cells) : Type 0 where
  pub items : length held.items ≡ length stage.conf.items
  pub ordered : (id : ℕ) → IfSome (at_id held.items id) (λ cell. IsOrdered cell.values)
  pub memories : length held.memories ≡ length stage.conf.items
  pub triggers : length held.problems ≡ length stage.conf.triggers
  pub histories : (id : ℕ) → Keeps stage.conf id (c (ItemKey id)).seen (c (ItemKey id)).history (at_id held.items id)
  pub marks : (id : ℕ) → listed held.memories id ≡ (c (ItemKey id)).marks
  pub problems : (id : ℕ) → problems_at held.problems id ≡ c (TriggerKey id)
  pub tick : held.tick ≡ c TickKey
  pub tidy : IsTidy stage c

-- what a run keeps represents whatever it did before
abbrev pub StillRepresents : CellsView → CellsView → Type 0
StillRepresents before after = (stage : Stage) (c : Cells) → Represents stage before c → Represents stage after c

-- what a run keeps represents the cells that stand for a log
pub record Holds (start : Start) (held : CellsView) (log : List Numbered) : Type 0 where
  pub cells : Cells
  pub stand : AreCellsOf start cells log
  pub represented : Represents start.stage held cells

-- an entry isn't before the last moment that each item of its foot has seen
abbrev pub ComesAfter : Conf → Cells → Numbered → Type 0
ComesAfter conf c e = (id : ℕ) → touches conf e.entry (ItemKey id) ≡ true → (c (ItemKey id)).seen ≤ moment_of e.entry

-- what a step makes and leaves, whatever cells it is that the kept ones represent, where the entry's events are its own: the
-- records of the entry over them, and what represents the cells behind it
abbrev pub StepsTo : Stage → CellsView → Numbered → List Rec → CellsView → Type 0
StepsTo stage held e made next =
    (c : Cells) → OwnsEvents stage e.number → Represents stage held c → ComesAfter stage.conf c e → IsFitting stage.conf e.entry → (made ≡ records stage c e)
    × Represents stage next (after stage c e)
