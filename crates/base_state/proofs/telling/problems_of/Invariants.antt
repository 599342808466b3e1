use Rattle.std.proofs.Common.{◌≡◌, ◌++◌, map, drop}
use Rattle.std.specs.Prelude.{flat_map}
use Rattle.base_laws.specs.Bases.{told_problem}
use Rattle.entry_step.specs.Represents.{problems_at}
use Rattle.base_state.proofs.telling.problems_of.Given as goal

abbrev pub invariant-loop-id : goal.invariant-loop-id
invariant-loop-id l =
    l.made.items ++ flat_map (λ id. map told_problem (problems_at l.rows id)) (drop l.id-index l.ids) ≡ flat_map (λ id. map told_problem (problems_at l.rows id)) l.ids
