use Rattle.std.proofs.Common.{◌≡◌, ◌<◌, length, All}
use Rattle.host_layout.proofs.templates.ranks.ranks_of.Given as goal

abbrev pub invariant-loop-at : goal.invariant-loop-at
invariant-loop-at l = record {
  counts : length l.counts.items ≡ length l.links;
  ranks : length l.ranks.items ≡ length l.links;
  queue : All (λ t. t < length l.links) l.queue;
}
