use Rattle.std.proofs.Common.{◌≡◌, ◌<◌, length, All}
use Rattle.host_layout.proofs.templates.ranks.count_down.Given as goal

abbrev pub invariant-loop-place : goal.invariant-loop-place
invariant-loop-place l = record {
  size : length l.counts.items ≡ length l.fn.counts.items;
  queue : All (λ t. t < length l.fn.counts.items) l.queue;
}
