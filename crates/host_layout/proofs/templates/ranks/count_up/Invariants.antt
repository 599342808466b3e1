use Rattle.std.proofs.Common.{◌≡◌, length}
use Rattle.host_layout.proofs.templates.ranks.count_up.Given as goal

abbrev pub invariant-loop-place : goal.invariant-loop-place
invariant-loop-place l = length l.counts.items ≡ length l.fn.counts.items
