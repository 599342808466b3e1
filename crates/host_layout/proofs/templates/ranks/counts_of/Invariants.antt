use Rattle.std.proofs.Common.{◌≡◌, length}
use Rattle.host_layout.proofs.templates.ranks.counts_of.Given as goal

abbrev pub invariant-loop-places : goal.invariant-loop-places
invariant-loop-places l = length l.counts.items ≡ length l.links
