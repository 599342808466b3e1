-- What the visits of an entry's value leave.
use Rattle.std.specs.Prelude.{◌≢◌, ◌<◌, ℕ, ◌==◌, List, [], ◌∷◌, filter_map, Option, Some, None, IfSome, if◌then◌else◌}
use Rattle.std.specs.Prelude.{⊤, All}
use Rattle.std.specs.List.{AllByRecursion}
use Rattle.zbx_types.specs.Hosts.{host_name}
use Rattle.zbx_types.specs.Ids.{at_id}
use Rattle.zbx_types.specs.declared.conf.Conf.{Conf}
use Rattle.zbx_types.specs.declared.entries.Rec.{Rec}
use Rattle.zbx_types.specs.declared.entries.Rec.TheVariants.{Failure}
use Rattle.zbx_types.specs.declared.entries.Stored.{Stored}
use Rattle.zbx_types.specs.declared.items.Item.{Item}
use Rattle.prep_steps.specs.declared.memory.StepMemory.{StepMemory}
use Rattle.value_cache.specs.Cells.{CellView, IsIn, trim}
use Rattle.value_cache.specs.Histories.{placed}
use Rattle.value_cache.specs.Tokens.{CacheId}
use Rattle.value_cache.specs.declared.keeping.Keep.{Keep}
use Rattle.preprocess.specs.declared.visit.ItemOutcome.{ItemOutcome}
use Rattle.preprocess.specs.declared.visit.ItemOutcome.TheVariants as outcome
use Rattle.preprocess.specs.declared.visit.Visit.{Visit}

-- no visit is of this item
abbrev pub IsOther : ℕ → List Visit → Type 0
IsOther id visits = AllByRecursion (λ v. v.item ≢ id) visits

-- the visits are of different items
abbrev pub AreApart : List Visit → Type 0
AreApart [] = ⊤
AreApart (v ∷ visits) = IsOther v.item visits × AreApart visits

-- what contracts see of what a cell keeps, whatever room it has
pub record Kept : Type 0 where
  pub keep : Keep
  pub values : List Stored

-- what a cell keeps
abbrev pub kept_of : CellView → Kept
kept_of cell = record { keep = cell.keep; values = cell.values }

-- a cell as what it keeps alone, whatever room it has
abbrev pub roomless : CellView → CellView
roomless cell = record { keep = cell.keep; values = cell.values; tokens = cell.tokens; room = 0 }

-- each of these cells has tokens of this vector alone
abbrev pub AreIn : CacheId → List CellView → Type 0
AreIn cache cells = All (IsIn cache) cells

-- what a cell keeps with one more value at a moment, if there is one
abbrev pub kept_with : ℕ → Option Stored → Kept → Kept
kept_with now None kept = kept
kept_with now (Some stored) kept = record { keep = kept.keep; values = trim kept.keep now (placed stored kept.values) }

-- the value that a visit stores
abbrev pub stored_by : ItemOutcome → Option Stored
stored_by (outcome.Stored stored) = Some stored
stored_by outcome.Discarded = None
stored_by (outcome.Failed why) = None

-- the visit of an item
abbrev pub visit_at : List Visit → ℕ → Option Visit
visit_at [] id = None
visit_at (v ∷ visits) id = if v.item == id then Some v else visit_at visits id

-- what it stores, if there is one
abbrev pub stored_of : Option Visit → Option Stored
stored_of None = None
stored_of (Some v) = stored_by v.outcome

-- the value that visits store of an item
abbrev pub stored_at : List Visit → ℕ → Option Stored
stored_at visits id = stored_of (visit_at visits id)

-- what an item's cell keeps behind a visit, if there is one
abbrev pub kept_after : ℕ → Option Visit → Kept → Kept
kept_after now visit kept = kept_with now (stored_of visit) kept

-- what an item's steps remember behind a visit, if there is one
abbrev pub marks_after : Option Visit → List StepMemory → List StepMemory
marks_after None marks = marks
marks_after (Some v) marks = v.marks

-- the Failure record of an item, where it is there
abbrev pub failure_by : Conf → ℕ → List ℕ → Option Item → Option Rec
failure_by conf number why None = None
failure_by conf number why (Some item) = Some (Failure number (host_name (at_id conf.hosts item.host)) item.key why)

-- the Failure record of a visit that failed
abbrev pub failure_of : Conf → ℕ → Visit → ItemOutcome → Option Rec
failure_of conf number v (outcome.Stored stored) = None
failure_of conf number v outcome.Discarded = None
failure_of conf number v (outcome.Failed why) = failure_by conf number why (at_id conf.items v.item)

-- the Failure records, in the order of visiting
abbrev pub failures_of : Conf → ℕ → List Visit → List Rec
failures_of conf number visits = filter_map (λ v. failure_of conf number v v.outcome) visits

-- there is room for a value of an item, if it has a cell
abbrev pub HasRoom : List CellView → ℕ → Type 0
HasRoom cells id = IfSome (at_id cells id) (λ cell. 0 < cell.room)

-- there is room for a value at each visit
abbrev pub HaveRoom : List CellView → List Visit → Type 0
HaveRoom cells visits = AllByRecursion (λ v. HasRoom cells v.item) visits
