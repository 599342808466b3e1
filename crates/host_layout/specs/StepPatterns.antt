-- The patterns of the items' preprocessing steps.
use Rattle.std.specs.Prelude.{ℕ, List, [], ◌∷◌, ◌++◌, flat_map, if◌then◌else◌, Result, codes}
use Rattle.zbx_types.specs.Steps.{has_pattern}
use Rattle.zbx_types.specs.declared.steps.StepSpec.{StepSpec}
use Rattle.macro_text.specs.Expanded.{expanded}
use Rattle.macro_text.specs.declared.macros.Macro.{Macro}
use Rattle.config_read.specs.declared.raw.RawConf.{RawConf}
use Rattle.host_layout.specs.Places.{Flaw, Placed, each_list}
use Rattle.host_layout.specs.Patterns.{Pattern, used, all_joined}
use Rattle.host_layout.specs.OwnedItems.{OwnedItem, owned_items}
use Rattle.host_layout.specs.Prepared.{placed_steps}

-- the use of a pattern that a step's parameters begin with
abbrev pub first_used : List Macro → List ℕ → List (List ℕ) → List Pattern
first_used macros path [] = []
first_used macros path (param ∷ rest) = used (expanded macros param) (path ++ codes "/params/0") ∷ []

-- the pattern that a step uses, where it uses one
abbrev pub used_by : List Macro → Placed StepSpec → List Pattern
used_by macros p = if has_pattern p.body.kind then first_used macros p.path p.body.params else []

-- the patterns that the steps of an item use, in their order
abbrev pub used_by_item : OwnedItem → List Pattern
used_by_item o = flat_map (used_by o.macros) (placed_steps o.item)

-- the patterns of the steps of all items, in the order of their first uses
unfoldable pub step_patterns : RawConf → Result (List Pattern) Flaw
step_patterns raw = each_list (λ before o. all_joined before (used_by_item o)) [] (owned_items raw)
