use Rattle.std.proofs.Common.{◌≡◌, ◌++◌, ◌∷◌, [], map, drop}
use Rattle.footprint.specs.Reaches.{reached_from}
use Rattle.footprint.proofs.tables.reached.Given as goal

abbrev pub invariant-loop-trigger : goal.invariant-loop-trigger
invariant-loop-trigger l = l.made.items ++ map (λ trigger. reached_from trigger 1 l.rules) (drop l.trigger-index l.triggers) ≡ [] ∷ map (λ trigger. reached_from trigger 1 l.rules) l.triggers
