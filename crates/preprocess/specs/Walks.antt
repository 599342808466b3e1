-- The same visits as they are made: a value is carried down to the dependents.
use Rattle.std.specs.Prelude.{ℕ, zero, suc, Bool, List, [], ◌++◌, flat_map, Option, Some, None, option_map}
use Rattle.std.specs.Prelude.{option_to_list}
use Rattle.zbx_types.specs.Ids.{at_id}
use Rattle.zbx_types.specs.Items.{is_received_item}
use Rattle.zbx_types.specs.declared.conf.Conf.{Conf}
use Rattle.prep_steps.specs.declared.memory.StepMemory.{StepMemory}
use Rattle.preprocess.specs.Chains.{dependents_of}
use Rattle.preprocess.specs.Visits.{chained_by, text_of, visit_of}
use Rattle.preprocess.specs.declared.visit.Visit.{Visit}

-- the visit of one item
abbrev pub own_visit : Conf → (ℕ → ℕ → StepMemory) → ℕ → ℕ → ℕ → List ℕ → List Visit
own_visit conf memory time number id value =
    option_to_list (option_map (visit_of time number id) (chained_by (memory id) time (at_id conf.items id) (Some value)))

-- what an item gives to its dependents
abbrev pub given : Conf → (ℕ → ℕ → StepMemory) → ℕ → ℕ → List ℕ → Option (List ℕ)
given conf memory time id value = text_of (chained_by (memory id) time (at_id conf.items id) (Some value))

-- what comes of a text, where there is one
abbrev pub with_text : (List ℕ → List Visit) → Option (List ℕ) → List Visit
with_text f None = []
with_text f (Some text) = f text

-- a value at an item, and at those below it
unfoldable pub walk : Conf → (ℕ → ℕ → StepMemory) → ℕ → ℕ → ℕ → ℕ → List ℕ → List Visit
walk conf memory time number zero id value = own_visit conf memory time number id value
walk conf memory time number (suc down) id value =
    own_visit conf memory time number id value
    ++ with_text (λ text. flat_map (λ d. walk conf memory time number down d text) (dependents_of conf id))
    (given conf memory time id value)

-- a value at some items, one level down
unfoldable pub walk_below : Conf → (ℕ → ℕ → StepMemory) → ℕ → ℕ → ℕ → List ℕ → List ℕ → List Visit
walk_below conf memory time number zero ids value = []
walk_below conf memory time number (suc down) ids value = flat_map (λ d. walk conf memory time number down d value) ids

-- an item takes the values of entries, by its id
abbrev pub takes : Conf → ℕ → Bool
takes conf id = is_received_item (at_id conf.items id)
