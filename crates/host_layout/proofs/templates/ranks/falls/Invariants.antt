use Rattle.std.proofs.Common.{ℕ, ◌<◌, [], get_or, All}
use Rattle.host_layout.proofs.templates.ranks.falls.Given as goal

abbrev pub invariant-loop-place : goal.invariant-loop-place
invariant-loop-place l = (k : ℕ) → k < l.place → All (λ t. get_or l.ranks t 0 < get_or l.ranks k 0) (get_or l.links k [])
