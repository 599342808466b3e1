use Rattle.std.proofs.Common.{◌<◌, length, All}
use Rattle.host_layout.proofs.templates.ranks.tops_of.Given as goal

abbrev pub invariant-loop-place : goal.invariant-loop-place
invariant-loop-place l = All (λ t. t < length l.counts) l.tops
