-- The rules whose reach holds a trigger.
use Rattle.std.specs.Prelude.{ℕ, ◌+◌, List, [], ◌∷◌, if◌then◌else◌}
use Rattle.zbx_types.specs.Reach.{in_reach}
use Rattle.zbx_types.specs.declared.rules.Rule.{Rule}
use Rattle.zbx_types.specs.declared.triggers.Trigger.{Trigger}

-- their ids, where the first of these rules has this one
abbrev pub reached_from : Trigger → ℕ → List Rule → List ℕ
reached_from trigger id [] = []
reached_from trigger id (rule ∷ rules) =
    if in_reach rule trigger then id ∷ reached_from trigger (id + 1) rules else reached_from trigger (id + 1) rules
