-- What the items of a configuration go on with that follows another one (this project's own).
use Rattle.std.specs.Prelude.{◌≡◌, ℕ, ◌==◌, Bool, true, false, ◌&&◌, List, [], ◌∷◌, map, Option, option_and_then, if◌then◌else◌}
use Rattle.std.specs.List.{position_from}
use Rattle.std.specs.Option.{option_map_or}
use Rattle.std.specs.Cmp.Lexicographic.{pointwise}
use Rattle.std.specs.Str.{bytes_eq}
use Rattle.zbx_types.specs.Hosts.{host_name}
use Rattle.zbx_types.specs.Ids.{at_id}
use Rattle.zbx_types.specs.declared.conf.Conf.{Conf}
use Rattle.zbx_types.specs.declared.entries.Stored.{Stored}
use Rattle.zbx_types.specs.declared.items.Item.{Item}
use Rattle.zbx_types.specs.declared.items.ValueType.{ValueType}
use Rattle.zbx_types.specs.declared.items.ValueType.TheVariants.{Number, Words}
use Rattle.zbx_types.specs.declared.steps.OnFail.{OnFail}
use Rattle.zbx_types.specs.declared.steps.OnFail.TheVariants as fails
use Rattle.zbx_types.specs.declared.steps.StepKind.{StepKind}
use Rattle.zbx_types.specs.declared.steps.StepKind.TheVariants as kinds
use Rattle.zbx_types.specs.declared.steps.StepSpec.{StepSpec}
use Rattle.prep_steps.specs.Outcomes.{unmarked}
use Rattle.prep_steps.specs.declared.memory.StepMemory.{StepMemory}
use Rattle.value_cache.specs.Cells.{CellView, trim}
use Rattle.value_cache.specs.Keeps.{keep_of, keeps_of}
use Rattle.preprocess.specs.Cells.{no_marks}
use Rattle.preprocess.specs.Chains.{listed}
use Rattle.preprocess.specs.declared.cells.Cells.{Cells}

-- two value types are the same
abbrev pub same_type : ValueType → ValueType → Bool
same_type Number Number = true
same_type Words Words = true
same_type Number Words = false
same_type Words Number = false

-- an item of the old configuration goes on as one of the new one: both have the same name of their host, the same key and
-- the same value type
abbrev pub goes_on_as : Conf → Conf → Item → Item → Bool
goes_on_as old new before item =
    bytes_eq (host_name (at_id old.hosts before.host)) (host_name (at_id new.hosts item.host))
    && bytes_eq before.key item.key
    && same_type before.value_type item.value_type

-- the id of the first item of the old configuration that goes on as an item of the new one, where there is one
abbrev pub old_item : Conf → Conf → Item → Option ℕ
old_item old new item = position_from (λ before. goes_on_as old new before item) 1 old.items

-- the history of the item with an id: what its old item keeps of its own at this moment
abbrev pub carried_history : Conf → Conf → ℕ → (ℕ → List Stored) → ℕ → List Stored
carried_history old new now histories id =
    option_map_or (λ before. trim (keep_of old before) now (histories before)) (option_and_then (old_item old new) (at_id new.items id)) []

-- the number of a kind of step, in the order of the kinds
abbrev pub kind_number : StepKind → ℕ
kind_number kinds.Regex = 0
kind_number kinds.Replace = 1
kind_number kinds.Trim = 2
kind_number kinds.LTrim = 3
kind_number kinds.RTrim = 4
kind_number kinds.JsonPath = 5
kind_number kinds.Multiplier = 6
kind_number kinds.SimpleChange = 7
kind_number kinds.ChangePerSecond = 8
kind_number kinds.BoolToDecimal = 9
kind_number kinds.OctalToDecimal = 10
kind_number kinds.HexToDecimal = 11
kind_number kinds.InRange = 12
kind_number kinds.Matches = 13
kind_number kinds.NotMatches = 14
kind_number kinds.JsonError = 15
kind_number kinds.RegexError = 16
kind_number kinds.Throttle = 17
kind_number kinds.ThrottleHeartbeat = 18

-- the number of what comes of a value at which a step fails, in the order of the choices
abbrev pub fail_number : OnFail → ℕ
fail_number fails.Empty = 0
fail_number fails.Discard = 1
fail_number fails.Value = 2
fail_number fails.Error = 3

-- two steps are equal in kind, parameters, on-fail and text
abbrev pub same_step : StepSpec → StepSpec → Bool
same_step one other =
    (kind_number one.kind == kind_number other.kind)
    && pointwise bytes_eq one.params other.params
    && (fail_number one.on_fail == fail_number other.on_fail)
    && bytes_eq one.text other.text

-- what steps remember of what the old ones did: each of them while it and those before it are equal to the old ones, and
-- nothing from the first on that isn't
abbrev pub carried_along : List StepSpec → List StepMemory → List StepSpec → List StepMemory
carried_along olds marks [] = []
carried_along [] marks (step ∷ steps) = map (λ s. unmarked) (step ∷ steps)
carried_along (old ∷ olds) [] (step ∷ steps) = map (λ s. unmarked) (step ∷ steps)
carried_along (old ∷ olds) (mark ∷ marks) (step ∷ steps) =
    if same_step old step then mark ∷ carried_along olds marks steps else map (λ s. unmarked) (step ∷ steps)

-- the steps of the item with an id
abbrev pub steps_of : Conf → ℕ → List StepSpec
steps_of conf id = option_map_or (λ item. item.steps) (at_id conf.items id) []

-- what the steps of an item of the new configuration remember
abbrev pub carried_for : Conf → Conf → (ℕ → List StepMemory) → Item → List StepMemory
carried_for old new marks item =
    option_map_or (λ before. carried_along (steps_of old before) (marks before) item.steps) (old_item old new item) (no_marks item)

-- and those of the item with an id
abbrev pub carried_marks : Conf → Conf → (ℕ → List StepMemory) → ℕ → List StepMemory
carried_marks old new marks id = option_map_or (carried_for old new marks) (at_id new.items id) []

-- what a cell is to keep at this moment of its values, where there is one
abbrev pub still_kept : ℕ → Option CellView → List Stored
still_kept now cell = option_map_or (λ (c : CellView). trim c.keep now c.values) cell []

-- the values of an item of the new configuration: those that its old item's cell is to keep at this moment
abbrev pub carried_values : Conf → Conf → ℕ → List CellView → Item → List Stored
carried_values old new now cells item = still_kept now (option_and_then (at_id cells) (old_item old new item))

-- what cells hold behind a configuration that follows another one: each of its items has a cell that is to keep what its
-- calls ask for, with the values that go on, and its steps remember what goes on of what the old ones did
pub record AreCarried (old new : Conf) (now : ℕ) (before after : Cells) : Type 0 where
  pub keeps : map (λ (c : CellView). c.keep) after.cells.items ≡ keeps_of new
  pub values : map (λ (c : CellView). c.values) after.cells.items ≡ map (carried_values old new now before.cells.items)
      new.items
  pub memories : after.memories.items ≡ map (carried_for old new (listed before.memories.items)) new.items
