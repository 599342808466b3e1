-- What a base that fits is asked for, part by part.
use Rattle.std.specs.Prelude.{◌≡◌, ◌≤◌, ◌==◌, ◌&&◌, ◌||◌, ℕ, Bool, true, false, nat_le, nat_lt, List, [], length, Some, slice_get}
use Rattle.std.specs.Cmp.Lexicographic.{slice_cmp}
use Rattle.std.specs.Ordering.{nat_cmp, is_lt}
use Rattle.zbx_types.specs.Ids.{at_id}
use Rattle.zbx_types.specs.Moments.{seconds_after}
use Rattle.zbx_types.specs.Records.{same_event, event_of}
use Rattle.zbx_types.specs.declared.base.Base.{Base}
use Rattle.zbx_types.specs.declared.base.BaseItem.{BaseItem}
use Rattle.zbx_types.specs.declared.base.BaseProblem.{BaseProblem}
use Rattle.zbx_types.specs.declared.base.BaseStep.{BaseStep}
use Rattle.zbx_types.specs.declared.base.BaseValue.{BaseValue}
use Rattle.zbx_types.specs.declared.base.Ran.{Ran}
use Rattle.zbx_types.specs.declared.conf.Conf.{Conf}
use Rattle.zbx_types.specs.declared.items.Item.{Item}
use Rattle.zbx_types.specs.declared.items.ValueType.{ValueType}
use Rattle.zbx_types.specs.declared.steps.StepSpec.{StepSpec}
use Rattle.value_cache.specs.Keeps.{keep_of}
use Rattle.value_cache.specs.declared.keeping.Keep.{Keep}
use Rattle.trigger_state.specs.declared.problems.Open.{Open}
use Rattle.base_laws.specs.FitsBase.{IsTextOf, FitsStep, FitsItem, IsProblemBy, trigger_by_names}
use Rattle.entry_step.specs.Each.{Each, EachPair}
use Rattle.entry_step.specs.Represents.{IsTagged}

-- a value is of a type, of an entry up to this number, and of no later moment
abbrev pub FitsValue : ValueType → ℕ → ℕ → BaseValue → Type 0
FitsValue type number now v = IsTextOf type v.value × ((v.number ≤ number) × (v.time ≤ now))

-- a value is later than another one: by time, and of values with one time by number
abbrev pub is_after : BaseValue → BaseValue → Bool
is_after v w = nat_lt w.time v.time || (v.time == w.time && nat_lt w.number v.number)

-- a value isn't later than one behind it
abbrev pub StandsBefore : BaseValue → BaseValue → Type 0
StandsBefore v w = is_after v w ≡ false

-- a value isn't of the period that is kept
abbrev pub is_old : Keep → ℕ → BaseValue → Bool
is_old keep now v = nat_le (seconds_after keep.period v.time) now

-- each step has a memory that fits it
abbrev pub FitSteps : ℕ → List StepSpec → List BaseStep → Type 0
FitSteps now steps kept = (length kept ≡ length steps)
    × ((place : ℕ) (step : StepSpec) (memory : BaseStep) → slice_get steps place ≡ Some step
    → slice_get kept place ≡ Some memory → FitsStep now step memory)

-- what a base keeps of the item with an id fits it, where both are there
abbrev pub FitsAt : Conf → Base → ℕ → Type 0
FitsAt conf base id = (item : Item) (kept : BaseItem) → at_id conf.items id ≡ Some item → at_id base.items id ≡ Some kept
    → FitsItem (keep_of conf id) base.number base.now item kept

-- what a base keeps of each item fits it
abbrev pub FitItems : Conf → Base → Type 0
FitItems conf base = (length base.items ≡ length conf.items) × ((id : ℕ) → FitsAt conf base id)

-- an action comes before another one in the order of the bytes of their names
abbrev pub RunsBefore : Ran → Ran → Type 0
RunsBefore a b = is_lt (slice_cmp nat_cmp a.action b.action) ≡ true

-- a step that ran is of no later moment, and has a number
abbrev pub HasRun : ℕ → Ran → Type 0
HasRun now r = (1 ≤ r.step) × (r.now ≤ now)

-- an open problem fits, whatever trigger it is of
abbrev pub FitsAlone : ℕ → ℕ → BaseProblem → Type 0
FitsAlone number now p = IsProblemBy now p.problem × (((event_of p.problem).number ≤ number)
    × (EachPair RunsBefore p.ran × Each (HasRun now) p.ran))

-- a problem is of no later entry than one behind it
abbrev pub IsOfEarlier : BaseProblem → BaseProblem → Type 0
IsOfEarlier p q = (event_of p.problem).number ≤ (event_of q.problem).number

-- the number and the trigger in the event of a problem
abbrev pub event_key : BaseProblem → ℕ × ℕ
event_key p = ((event_of p.problem).number, (event_of p.problem).trigger)

-- two problems have different events
abbrev pub Differ : BaseProblem → BaseProblem → Type 0
Differ p q = same_event (event_of p.problem) (event_of q.problem) ≡ false

-- a problem as an open one, without steps
abbrev pub opened : BaseProblem → Open
opened p = record { problem = p.problem; steps = []; rank = 0 }

-- a problem has a trigger of its names, with the names of its tags
abbrev pub HasTrigger : Conf → BaseProblem → Type 0
HasTrigger conf p = IsTagged conf (trigger_by_names conf p.problem) p.problem

-- open problems fit, each and together
pub record FitProblems (conf : Conf) (number : ℕ) (now : ℕ) (problems : List BaseProblem) : Type 0 where
  pub alone : Each (FitsAlone number now) problems
  pub rise : EachPair IsOfEarlier problems
  pub differ : EachPair Differ problems
  pub triggers : Each (HasTrigger conf) problems
