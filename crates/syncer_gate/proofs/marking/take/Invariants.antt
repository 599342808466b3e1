use Rattle.std.proofs.Common.{◌≡◌, ◌≤◌, ◌<◌, ◌+◌, ℕ, true, drop, take, length}
use Rattle.zbx_types.specs.Masters.{has_id}
use Rattle.syncer_gate.specs.Gate.{with_taken}
use Rattle.syncer_gate.proofs.marking.take.Given as goal

abbrev pub invariant-loop-number : goal.invariant-loop-number
invariant-loop-number l = record {
  size : length l.marks.items ≡ length l.fn.marks.items;
  marks : with_taken l.id (drop l.number-index l.numbers) l.first l.marks.items ≡ with_taken l.id l.numbers l.first l.fn.marks.items;
  high : l.high ≤ l.end;
  above : (n : ℕ) → has_id (take l.number-index l.numbers) n ≡ true → n < l.first + l.end;
  inside : l.high ≤ length l.fn.marks.items → l.end ≤ length l.fn.marks.items;
}
