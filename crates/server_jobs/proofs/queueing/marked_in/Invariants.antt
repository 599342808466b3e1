use Rattle.std.proofs.Common.{◌≡◌, ◌≤◌, ◌-◌, ℕ, false, length, take, slice_index_or}
use Rattle.alert_marks.specs.Marks.{has_mark}
use Rattle.server_jobs.proofs.queueing.marked_in.Given as goal

abbrev pub invariant-loop-mark : goal.invariant-loop-mark
invariant-loop-mark l = record {
  count : length l.marked.items ≡ l.total;
  each : (n : ℕ) → 1 ≤ n → n ≤ l.total → slice_index_or l.marked.items (n - 1) false ≡ has_mark (take l.mark-index l.marks) n;
}
