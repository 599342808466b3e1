-- What a run keeps, restored from a base.
use Rattle.std.specs.Prelude.{◌≡◌, ℕ, true, List, [], length, replicate, is_some, IfSome}
use Rattle.zbx_types.specs.Ids.{at_id}
use Rattle.zbx_types.specs.Records.{event_of}
use Rattle.zbx_types.specs.declared.base.Base.{Base}
use Rattle.zbx_types.specs.declared.base.BaseProblem.{BaseProblem}
use Rattle.zbx_types.specs.declared.conf.Conf.{Conf}
use Rattle.zbx_types.specs.declared.entries.EventId.{EventId}
use Rattle.preprocess.specs.Chains.{listed}
use Rattle.value_cache.specs.Keeps.{keep_of}
use Rattle.trigger_state.specs.Stages.{Stage, home}
use Rattle.trigger_state.specs.declared.problems.Open.{Open}
use Rattle.entry_step.specs.Changes.{Absorbed}
use Rattle.entry_step.specs.Each.{Each}
use Rattle.entry_step.specs.Represents.{CellsView, Holds}
use Rattle.base_laws.specs.Bases.{read_history, read_marks, start_records, base_stage, told_start}
use Rattle.base_laws.specs.FitsBase.{FitsBase}

-- there is a row for the trigger of an event
abbrev pub IsHoused : Stage → List (List Open) → EventId → Type 0
IsHoused stage rows event = is_some (at_id rows (home stage event)) ≡ true

-- so there is for each of some problems
abbrev pub AreHoused : Stage → List (List Open) → List BaseProblem → Type 0
AreHoused stage rows problems = Each (λ p. IsHoused stage rows (event_of p.problem)) problems

-- What a run keeps is restored from a base: the values of each item, what its steps remember, the first Tick, and in the rows
-- of the triggers what the records make that stand for the base's problems.
pub record IsRestored (stage : Stage) (base : Base) (held : CellsView) : Type 0 where
  pub items : length held.items ≡ length stage.conf.items
  pub cells : (id : ℕ) → IfSome (at_id held.items id) (λ cell. (cell.keep ≡ keep_of stage.conf id)
      × (cell.values ≡ read_history (at_id stage.conf.items id) (at_id base.items id)))
  pub memories : length held.memories ≡ length stage.conf.items
  pub marks : (id : ℕ) → listed held.memories id ≡ read_marks (at_id base.items id)
  pub problems : Absorbed stage (replicate (length stage.conf.triggers) []) (start_records base) held.problems
  pub tick : held.tick ≡ base.first_tick

-- What is restored from a base that fits holds the start that the base is by itself, and each problem of such a base has a
-- row.
abbrev pub RestoredHolds : Type 0
RestoredHolds = (conf : Conf) (base : Base) → FitsBase conf base
    → AreHoused (base_stage conf base) (replicate (length conf.triggers) []) base.problems
    × ((held : CellsView) → IsRestored (base_stage conf base) base held → Holds (told_start conf base) held [])
