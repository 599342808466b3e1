use Rattle.std.proofs.Common.{◌≡◌, ◌+◌, ◌++◌, map, drop}
use Rattle.config_templates.proofs.depends.ids.Given as goal

abbrev pub invariant-loop-place : goal.invariant-loop-place
invariant-loop-place l = l.ids ++ map (λ place. place + 1) (drop l.place-index l.places) ≡ map (λ place. place + 1) l.places
