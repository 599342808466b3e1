-- What the types of a base's parts say of it: how many bytes its numbers have, and that its texts are UTF-8.
use Rattle.std.specs.Prelude.{ℕ, ◌<◌, ◌/◌, ◌^◌, ⊤, All, IfSome}
use Rattle.std.specs.Str.{IsUtf8}
use Rattle.zbx_types.specs.declared.base.Base.{Base}
use Rattle.zbx_types.specs.declared.base.BaseItem.{BaseItem}
use Rattle.zbx_types.specs.declared.base.BaseProblem.{BaseProblem}
use Rattle.zbx_types.specs.declared.base.BaseStep.{BaseStep}
use Rattle.zbx_types.specs.declared.base.BaseValue.{BaseValue}
use Rattle.zbx_types.specs.declared.base.Ran.{Ran}
use Rattle.zbx_types.specs.declared.entries.Rec.{Rec}
use Rattle.zbx_types.specs.declared.entries.Rec.TheVariants.{Failure, Problem, Recovery, Step, Message}
use Rattle.zbx_types.specs.declared.entries.Tag.{Tag}

-- the seconds of a moment have four bytes
abbrev pub IsMoment : ℕ → Type 0
IsMoment m = m / 1000000000 < 2 ^ 32

pub record IsValueTyped (v : BaseValue) : Type 0 where
  pub time : IsMoment v.time
  pub number : v.number < 2 ^ 64
  pub value : IsUtf8 v.value

pub record IsStepTyped (s : BaseStep) : Type 0 where
  pub time : IsMoment s.time
  pub value : IsUtf8 s.value

pub record IsItemTyped (i : BaseItem) : Type 0 where
  pub values : All IsValueTyped i.values
  pub steps : All IsStepTyped i.steps

pub record IsTagTyped (t : Tag) : Type 0 where
  pub tag : IsUtf8 t.tag
  pub value : IsUtf8 t.value

pub record IsRanTyped (r : Ran) : Type 0 where
  pub action : IsUtf8 r.action
  pub step : r.step < 2 ^ 32
  pub now : IsMoment r.now

-- of a Problem record; of any other nothing is asked
abbrev pub IsRecordTyped : Rec → Type 0
IsRecordTyped (Problem event now severity suppressed host trigger name tags) =
    (event.number < 2 ^ 64) × (event.trigger < 2 ^ 32) × IsMoment now × IsUtf8 host × IsUtf8 trigger × IsUtf8 name × All IsTagTyped tags
IsRecordTyped (Failure number host key why) = ⊤
IsRecordTyped (Recovery event by now cause) = ⊤
IsRecordTyped (Step event action step now) = ⊤
IsRecordTyped (Message event action step recipient subject body) = ⊤

pub record IsProblemTyped (p : BaseProblem) : Type 0 where
  pub problem : IsRecordTyped p.problem
  pub ran : All IsRanTyped p.ran

pub record IsHeadTyped (b : Base) : Type 0 where
  pub number : b.number < 2 ^ 64
  pub now : IsMoment b.now
  pub first : IfSome b.first_tick IsMoment
  pub last : IfSome b.last_tick IsMoment
  pub lines : b.lines < 2 ^ 64

pub record IsBaseTyped (b : Base) : Type 0 where
  pub head : IsHeadTyped b
  pub text : IsUtf8 b.text
  pub items : All IsItemTyped b.items
  pub problems : All IsProblemTyped b.problems
