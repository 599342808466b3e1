-- Which bases fit a configuration (this project's own).
use Rattle.std.specs.Prelude.{◌≡◌, ◌≢◌, ◌≤◌, ◌^◌, ℕ, Bool, true, false, List, [], length, Option, Some, None, slice_get, unsigned_abs, ℤ}
use Rattle.std.specs.Cmp.Lexicographic.{slice_cmp}
use Rattle.std.specs.Option.{unwrap_or}
use Rattle.std.specs.Ordering.{nat_cmp, is_lt}
use Rattle.zbx_types.specs.Ids.{at_id}
use Rattle.zbx_types.specs.Records.{same_event, event_of, host_of, trigger_name_of}
use Rattle.zbx_types.specs.Written.{written}
use Rattle.zbx_types.specs.declared.base.Base.{Base}
use Rattle.zbx_types.specs.declared.base.BaseItem.{BaseItem}
use Rattle.zbx_types.specs.declared.base.BaseProblem.{BaseProblem}
use Rattle.zbx_types.specs.declared.base.BaseStep.{BaseStep}
use Rattle.zbx_types.specs.declared.base.Ran.{Ran}
use Rattle.zbx_types.specs.declared.conf.Conf.{Conf}
use Rattle.zbx_types.specs.declared.entries.Rec.{Rec}
use Rattle.zbx_types.specs.declared.entries.Rec.TheVariants.{Failure, Problem, Recovery, Step, Message}
use Rattle.zbx_types.specs.declared.items.Item.{Item}
use Rattle.zbx_types.specs.declared.items.ValueType.{ValueType}
use Rattle.zbx_types.specs.declared.items.ValueType.TheVariants as type
use Rattle.zbx_types.specs.declared.steps.StepKind.{StepKind}
use Rattle.zbx_types.specs.declared.steps.StepKind.TheVariants.{SimpleChange, ChangePerSecond}
use Rattle.zbx_types.specs.declared.steps.StepSpec.{StepSpec}
use Rattle.value_cache.specs.Cells.{trim}
use Rattle.value_cache.specs.Histories.{IsOrdered}
use Rattle.value_cache.specs.Keeps.{keep_of}
use Rattle.value_cache.specs.declared.keeping.Keep.{Keep}
use Rattle.trigger_state.specs.Stages.{id_named}
use Rattle.entry_step.specs.Each.{Each, EachPair}
use Rattle.entry_step.specs.Named.{AreDistinct}
use Rattle.entry_step.specs.Represents.{IsTagged}
use Rattle.entry_step.specs.Whole.{FitsStart}
use Rattle.base_laws.specs.Bases.{read_history, told_start}
use Rattle.base_laws.specs.Sound.{IsSound}

-- the greatest number of an entry, and the most bytes of lines, that a base has
abbrev pub most_counted : ℕ
most_counted = 9000000000000000000

-- a text is the written form of a number in range
abbrev pub IsWritten : List ℕ → Type 0
IsWritten text = (z : ℤ) × (unsigned_abs z ≤ 10 ^ 30) × (text ≡ written z)

-- a text is a value of a type
abbrev pub IsTextOf : ValueType → List ℕ → Type 0
IsTextOf type.Number text = IsWritten text
IsTextOf type.Words text = Unit {0}

-- a step is on the change of a number
abbrev pub is_change : StepKind → Bool
is_change SimpleChange = true
is_change ChangePerSecond = true
is_change _ = false

-- What a step remembers fits it: of a change a written number, of no later moment, and nothing where there is none.
pub record FitsStep (now : ℕ) (step : StepSpec) (memory : BaseStep) : Type 0 where
  pub number : is_change step.kind ≡ true → memory.there ≡ true → IsWritten memory.value
  pub none : memory.there ≡ false → (memory.time ≡ 0) × (memory.value ≡ [])
  pub moment : memory.time ≤ now

-- What a base keeps of an item fits it: its values are of its type, in the order of time and then of number, each of
-- another entry up to the base's and of no later moment, and no more than is to be kept; and each of its steps has a memory.
pub record FitsItem (keep : Keep) (number : ℕ) (now : ℕ) (item : Item) (kept : BaseItem) : Type 0 where
  pub texts : Each (λ v. IsTextOf item.value_type v.value) kept.values
  pub ordered : IsOrdered (read_history (Some item) (Some kept))
  pub numbers : EachPair (λ v w. v.number ≢ w.number) kept.values
  pub upto : Each (λ v. (v.number ≤ number) × (v.time ≤ now)) kept.values
  pub trimmed : trim keep now (read_history (Some item) (Some kept)) ≡ read_history (Some item) (Some kept)
  pub steps : length kept.steps ≡ length item.steps
  pub memories : (place : ℕ) (step : StepSpec) (memory : BaseStep) → slice_get item.steps place ≡ Some step
      → slice_get kept.steps place ≡ Some memory → FitsStep now step memory

-- the first Tick isn't after the last one, nor that after a moment; they are there or neither is
abbrev pub FitTicks : ℕ → Option ℕ → Option ℕ → Type 0
FitTicks now None None = Unit {0}
FitTicks now None (Some last) = ⊥
FitTicks now (Some first) None = ⊥
FitTicks now (Some first) (Some last) = (first ≤ last) × (last ≤ now)

-- a record is a Problem of a moment up to this one, of a severity that there is
abbrev pub IsProblemBy : ℕ → Rec → Type 0
IsProblemBy moment (Problem event now severity suppressed host trigger name tags) = (now ≤ moment) × (severity ≤ 5)
IsProblemBy moment (Failure number host key why) = ⊥
IsProblemBy moment (Recovery event by now cause) = ⊥
IsProblemBy moment (Step event action step now) = ⊥
IsProblemBy moment (Message event action step recipient subject body) = ⊥

-- the id of the trigger that has the names of a problem, 0 where there is none
abbrev pub trigger_by_names : Conf → Rec → ℕ
trigger_by_names conf problem = unwrap_or (id_named conf (host_of problem) (trigger_name_of problem)) 0

-- An open problem fits: it is a Problem of an entry up to the base's and of no later moment, its actions stand in the order
-- of their names with steps from 1 on, and its trigger is there, with the names of its tags.
pub record FitsProblem (conf : Conf) (number : ℕ) (now : ℕ) (p : BaseProblem) : Type 0 where
  pub problem : IsProblemBy now p.problem
  pub upto : (event_of p.problem).number ≤ number
  pub actions : EachPair (λ (a b : Ran). is_lt (slice_cmp nat_cmp a.action b.action) ≡ true) p.ran
  pub steps : Each (λ (r : Ran). (1 ≤ r.step) × (r.now ≤ now)) p.ran
  pub trigger : IsTagged conf (trigger_by_names conf p.problem) p.problem

-- a problem is another one than one before it, and of no earlier entry
abbrev pub ComesBehind : BaseProblem → BaseProblem → Type 0
ComesBehind p q = ((event_of p.problem).number ≤ (event_of q.problem).number)
    × (same_event (event_of p.problem) (event_of q.problem) ≡ false)

-- A base fits a configuration: what it keeps of each item and each open problem does, its problems stand in the order of
-- their entries, and its numbers and moments can be counted.
pub record FitsBase (conf : Conf) (base : Base) : Type 0 where
  pub number : base.number ≤ most_counted
  pub lines : base.lines ≤ most_counted
  pub ticks : FitTicks base.now base.first_tick base.last_tick
  pub rows : length base.items ≡ length conf.items
  pub items : (id : ℕ) (item : Item) (kept : BaseItem) → at_id conf.items id ≡ Some item → at_id base.items id ≡ Some kept
      → FitsItem (keep_of conf id) base.number base.now item kept
  pub problems : Each (FitsProblem conf base.number base.now) base.problems
  pub order : EachPair ComesBehind base.problems

-- A base that fits a configuration is a sound start by itself.
abbrev pub FitsIsSound : Type 0
FitsIsSound = (conf : Conf) (base : Base) → FitsBase conf base → IsSound (told_start conf base)

-- And a log can stand on it, where no two triggers have the same names.
abbrev pub FitsIsStart : Type 0
FitsIsStart = (conf : Conf) (base : Base) → AreDistinct conf → FitsBase conf base → FitsStart (told_start conf base)
