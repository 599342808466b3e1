use Rattle.std.proofs.Common.{◌≡◌, ◌≤◌, ◌+◌, ◌-◌, ◌++◌, ℕ, [], length, get_or}
use Rattle.std.specs.Vec.{vec_len, vec_capacity}
use Rattle.book.specs.Entries.{IsWholeLog}
use Rattle.book.proofs.progress.pull_known.Given as goal

abbrev pub invariant-loop-entry : goal.invariant-loop-entry
invariant-loop-entry g l = record {
  received : l.entries.items ≡ l.ring.received;
  fifo : l.ring.received ++ l.ring.known ≡ l.fn.ring.received ++ l.fn.ring.known;
  capacity : l.ring.capacity ≡ l.fn.ring.capacity;
  counted : length l.ring.received ≡ length l.fn.ring.received + l._entry;
  whole : IsWholeLog g.S.StartName.start l.entries.items;
  room : vec_len l.entries + (l.count - l._entry) ≤ vec_capacity l.entries;
  rows : vec_len l.made + (l.count - l._entry) ≤ vec_capacity l.made;
  size : length l.made.items ≡ length l.fn.made.items + l._entry;
  made : (n : ℕ) → get_or l.made.items n [] ≡ get_or l.fn.made.items n [];
}
