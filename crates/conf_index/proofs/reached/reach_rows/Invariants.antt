use Rattle.std.proofs.Common.{◌≡◌, ◌++◌, ◌∷◌, [], map, drop}
use Rattle.conf_index.specs.Index.{reach_from}
use Rattle.conf_index.proofs.reached.reach_rows.Given as goal

abbrev pub invariant-loop-rule : goal.invariant-loop-rule
invariant-loop-rule l =
    l.rows.items ++ map (λ rule. reach_from rule 1 l.triggers) (drop l.rule-index l.rules) ≡ [] ∷ map (λ rule. reach_from rule 1 l.triggers) l.rules
