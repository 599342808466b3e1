-- A base as bytes, and what is asked of one that is written.
use Rattle.std.specs.Prelude.{◌≡◌, ℕ, ◌<◌, ⊤, Bool, true, ◌&&◌, IsTrue, Option, List, [], ◌∷◌, ◌++◌, length, All, is_some, unwrap_or, if◌then◌else◌}
use Rattle.std.specs.Cmp.Lexicographic.{slice_cmp}
use Rattle.std.specs.List.{flat_map}
use Rattle.std.specs.Ordering.{is_le, nat_cmp}
use Rattle.byteorder.specs.Endian.{little_bytes}
use Rattle.zbx_types.specs.declared.base.Base.{Base}
use Rattle.zbx_types.specs.declared.base.BaseItem.{BaseItem}
use Rattle.zbx_types.specs.declared.base.BaseProblem.{BaseProblem}
use Rattle.zbx_types.specs.declared.base.BaseStep.{BaseStep}
use Rattle.zbx_types.specs.declared.base.BaseValue.{BaseValue}
use Rattle.zbx_types.specs.declared.base.Ran.{Ran}
use Rattle.zbx_types.specs.declared.entries.EventId.{EventId}
use Rattle.zbx_types.specs.declared.entries.Rec.{Rec}
use Rattle.zbx_types.specs.declared.entries.Rec.TheVariants.{Failure, Problem, Recovery, Step, Message}
use Rattle.zbx_types.specs.declared.entries.Tag.{Tag}
use Rattle.intake_journal.specs.Bytes.{number_bytes, moment_bytes, text_bytes}

-- a number of eight bytes, the lowest first
abbrev pub long_bytes : ℕ → List ℕ
long_bytes n = little_bytes 8 n

-- whether something is so: 1 or 0
abbrev pub flag_bytes : Bool → List ℕ
flag_bytes so = (if so then 1 else 0) ∷ []

-- a list: how many parts it has, and these
abbrev pub list_bytes : {A : Type 0} → (A → List ℕ) → List A → List ℕ
list_bytes part parts = number_bytes (length parts) ++ flat_map part parts

-- the first and the last Tick: whether there was one, and their moments, which are 0 where there was none
abbrev pub ticks_bytes : Option ℕ → Option ℕ → List ℕ
ticks_bytes first last = flag_bytes (is_some first) ++ moment_bytes (unwrap_or first 0) ++ moment_bytes (unwrap_or last 0)

-- a value that an item keeps
unfoldable pub value_bytes : BaseValue → List ℕ
value_bytes v = moment_bytes v.time ++ long_bytes v.number ++ text_bytes v.value

-- what a step remembers
unfoldable pub step_bytes : BaseStep → List ℕ
step_bytes s = flag_bytes s.there ++ moment_bytes s.time ++ text_bytes s.value

-- what an item keeps
unfoldable pub item_bytes : BaseItem → List ℕ
item_bytes i = list_bytes value_bytes i.values ++ list_bytes step_bytes i.steps

-- a tag
unfoldable pub tag_bytes : Tag → List ℕ
tag_bytes t = text_bytes t.tag ++ text_bytes t.value

-- the last step of an action that ran
unfoldable pub ran_bytes : Ran → List ℕ
ran_bytes r = text_bytes r.action ++ number_bytes r.step ++ moment_bytes r.now

-- an event, and when, how severe and whether suppressed
abbrev pub event_bytes : EventId → ℕ → ℕ → Bool → List ℕ
event_bytes event now severity suppressed = long_bytes event.number ++ number_bytes event.trigger ++ moment_bytes now ++ severity ∷ flag_bytes suppressed

-- a Problem record; of any other nothing is written
unfoldable pub record_bytes : Rec → List ℕ
record_bytes (Problem event now severity suppressed host trigger name tags) =
    event_bytes event now severity suppressed ++ (text_bytes host ++ text_bytes trigger ++ text_bytes name) ++ list_bytes tag_bytes tags
record_bytes (Failure number host key why) = []
record_bytes (Recovery event by now cause) = []
record_bytes (Step event action step now) = []
record_bytes (Message event action step recipient subject body) = []

-- an open problem
unfoldable pub problem_bytes : BaseProblem → List ℕ
problem_bytes p = record_bytes p.problem ++ list_bytes ran_bytes p.ran

-- the state before the text: number and moment, Ticks, bytes of lines
abbrev pub head_bytes : Base → List ℕ
head_bytes b = long_bytes b.number ++ moment_bytes b.now ++ ticks_bytes b.first_tick b.last_tick ++ long_bytes b.lines

-- a base
unfoldable pub base_bytes : Base → List ℕ
base_bytes b = head_bytes b ++ text_bytes b.text ++ list_bytes item_bytes b.items ++ list_bytes problem_bytes b.problems

-- an action's name doesn't come behind that of the first of these
abbrev pub stands_first : Ran → List Ran → Bool
stands_first one [] = true
stands_first one (next ∷ rest) = is_le (slice_cmp nat_cmp one.action next.action)

-- actions stand in byte order of their names
abbrev pub stand_in_order : List Ran → Bool
stand_in_order [] = true
stand_in_order (one ∷ rest) = stands_first one rest && stand_in_order rest

-- it is the record of a problem
abbrev pub IsProblem : Rec → Type 0
IsProblem (Problem event now severity suppressed host trigger name tags) = ⊤
IsProblem (Failure number host key why) = ⊥
IsProblem (Recovery event by now cause) = ⊥
IsProblem (Step event action step now) = ⊥
IsProblem (Message event action step recipient subject body) = ⊥

-- a problem of a base has a Problem record, and its actions stand in byte order of their names
abbrev pub IsOrderly : BaseProblem → Type 0
IsOrderly p = IsProblem p.problem × IsTrue (stand_in_order p.ran)

-- what is asked of a base that is written: it has a configuration, both Ticks or neither, and orderly problems
pub record IsFormed (base : Base) : Type 0 where
  pub text : 0 < length base.text
  pub ticks : is_some base.first_tick ≡ is_some base.last_tick
  pub problems : All IsOrderly base.problems
