-- What the steps of a chain are given.
use Rattle.std.specs.Prelude.{◌≡◌, ℕ, ◌-◌, Bool, true, not, List, Option, None, All, Contains, map, slice_index_or}
use Rattle.std.specs.Prelude.{if◌then◌else◌}
use Rattle.zbx_types.specs.Steps.{has_pattern}
use Rattle.std.specs.List.{list_all}
use Rattle.zbx_types.specs.declared.items.Item.{Item}
use Rattle.zbx_types.specs.declared.steps.StepSpec.{StepSpec}
use Rattle.json_path.specs.declared.path.Path.{Path}
use Rattle.prep_steps.specs.Matching.{pattern_place}
use Rattle.prep_steps.specs.Outcomes.{parameter, unmarked}
use Rattle.prep_steps.specs.Steps.{looks_into_json}
use Rattle.prep_steps.specs.declared.memory.StepMemory.{StepMemory}
use Rattle.preprocess.specs.Readings.{path_in}
use Rattle.preprocess.specs.declared.ways.Way.{Way}

-- the memory of the step with this number, counted from 1: a step without one has no mark
abbrev pub memory_at : List StepMemory → ℕ → StepMemory
memory_at memories k = slice_index_or memories (k - 1) unmarked

-- the path of a step that looks into JSON, if its parameter is one
abbrev pub path_for : StepSpec → Option Path
path_for step = if looks_into_json step.kind then path_in (parameter step.params 0) else None

-- what is found of a step once: its path, and the place of its pattern among these
abbrev pub way_for : List (List ℕ) → StepSpec → Way
way_for patterns step = record { path = path_for step; place = pattern_place step patterns }

-- the same of an item's steps
abbrev pub ways_for : List (List ℕ) → Item → List Way
ways_for patterns item = map (way_for patterns) item.steps

-- the pattern of a step that has one is among these
abbrev pub HasPattern : List (List ℕ) → StepSpec → Type 0
HasPattern patterns step = has_pattern step.kind ≡ true → Contains patterns (parameter step.params 0)

-- the pattern of each of some steps that has one is among these
abbrev pub HavePatterns : List (List ℕ) → List StepSpec → Type 0
HavePatterns patterns steps = All (HasPattern patterns) steps

-- a step has no pattern
abbrev pub is_plain : StepSpec → Bool
is_plain step = not (has_pattern step.kind)

-- no step of an item has a pattern
abbrev pub are_plain : Item → Bool
are_plain item = list_all is_plain item.steps
