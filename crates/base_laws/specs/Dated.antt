-- The bases that logs leave fit: what entries leave is dated, and can be counted.
use Rattle.std.specs.Prelude.{◌≡◌, ◌≢◌, ◌≤◌, ℕ, List, Option, Some, None, slice_get}
use Rattle.zbx_types.specs.Ids.{at_id}
use Rattle.zbx_types.specs.declared.base.Base.{Base}
use Rattle.zbx_types.specs.declared.conf.Conf.{Conf}
use Rattle.zbx_types.specs.declared.entries.Numbered.{Numbered}
use Rattle.zbx_types.specs.declared.entries.Rec.{Rec}
use Rattle.zbx_types.specs.declared.entries.Rec.TheVariants.{Failure, Problem, Recovery, Step, Message}
use Rattle.zbx_types.specs.declared.entries.Stored.{Stored}
use Rattle.zbx_types.specs.declared.items.Item.{Item}
use Rattle.zbx_types.specs.declared.steps.StepSpec.{StepSpec}
use Rattle.zbx_types.specs.declared.triggers.Trigger.{Trigger}
use Rattle.entry_step.specs.Each.{Each, EachPair}
use Rattle.entry_step.specs.InForce.{SuitsWhole}
use Rattle.entry_laws.specs.InForce.{left_by}
use Rattle.entry_step.specs.Log.{IsRising}
use Rattle.entry_step.specs.Start.{Start, fresh}
use Rattle.entry_step.specs.Whole.{point}
use Rattle.entry_laws.specs.Previous.{HasMarks}
use Rattle.entry_laws.specs.Remembered.{mark_at}
use Rattle.trigger_state.specs.Stages.{Stage}
use Rattle.base_laws.specs.Bases.{told_step, told_start, Beside, last_tick, whole_base}
use Rattle.base_laws.specs.FitsBase.{most_counted, FitsStep, FitTicks, FitsBase}
use Rattle.base_laws.specs.WholeBases.{IsRegular, IsWhole, conf_after}

-- a Problem is of a moment up to this one and of a severity that there is, and a step too and counted from 1 on
abbrev pub IsDatedBy : ℕ → Rec → Type 0
IsDatedBy moment (Problem event now severity suppressed host trigger name tags) = (now ≤ moment) × (severity ≤ 5)
IsDatedBy moment (Step event action step now) = (1 ≤ step) × (now ≤ moment)
IsDatedBy moment (Failure number host key why) = Unit {0}
IsDatedBy moment (Recovery event by now cause) = Unit {0}
IsDatedBy moment (Message event action step recipient subject body) = Unit {0}

-- What stood before the entries of a log is dated, where this was the last Tick: each moment is up to its own and each
-- number too, no entry stored two values of an item, and what steps remember fits them.
pub record IsDated (start : Start) (last : Option ℕ) : Type 0 where
  pub ticks : FitTicks start.moment start.tick last
  pub records : Each (IsDatedBy start.moment) start.records
  pub values : (id : ℕ) → Each (λ (s : Stored). (s.number ≤ start.number) × (s.time ≤ start.moment)) (start.histories id)
  pub numbers : (id : ℕ) → EachPair (λ (s t : Stored). s.number ≢ t.number) (start.histories id)
  pub marks : HasMarks start
  pub memories : (id : ℕ) (item : Item) (place : ℕ) (step : StepSpec) → at_id start.stage.conf.items id ≡ Some item
      → slice_get item.steps place ≡ Some step
      → FitsStep start.moment step (told_step (mark_at (start.marks id) place))

-- the severity of each trigger is one that there is
abbrev pub HasSeverities : Conf → Type 0
HasSeverities conf = (id : ℕ) (trigger : Trigger) → at_id conf.triggers id ≡ Some trigger → trigger.severity ≤ 5

-- a fresh start is dated, where there was no Tick
abbrev pub FreshIsDated : Type 0
FreshIsDated = (stage : Stage) → IsDated (fresh stage) None

-- What a whole log leaves is dated.
abbrev pub WholeIsDated : Type 0
WholeIsDated = (flat : List ℕ → Conf) (start : Start) (last : Option ℕ) (log : List Numbered) → IsWhole flat start log
    → SuitsWhole flat start log → ((text : List ℕ) → HasSeverities (flat text)) → HasSeverities start.stage.conf
    → IsDated start last → IsDated (left_by (point flat start log)) (last_tick last log)

-- The base of a whole log fits the configuration in force there, where its number and its bytes can be counted.
abbrev pub BaseFits : Type 0
BaseFits = (flat : List ℕ → Conf) (beside : Beside) (start : Start) (log : List Numbered) → IsWhole flat start log
    → SuitsWhole flat start log → ((text : List ℕ) → HasSeverities (flat text)) → HasSeverities start.stage.conf
    → IsDated start beside.tick
    → let base : Base = whole_base flat beside start log in
    base.number ≤ most_counted → base.lines ≤ most_counted → FitsBase (conf_after flat start log) base

-- A base that fits is dated by itself, and a whole log whose numbers rise fits it: so bases can be made of what follows one.
abbrev pub CheckpointFits : Type 0
CheckpointFits = (flat : List ℕ → Conf) (conf : Conf) (base : Base) (log : List Numbered)
    → ((text : List ℕ) → IsRegular (flat text)) → IsRegular conf → FitsBase conf base → IsRising (told_start conf base) log
    → IsDated (told_start conf base) base.last_tick × IsWhole flat (told_start conf base) log
