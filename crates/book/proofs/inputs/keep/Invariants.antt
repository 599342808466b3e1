use Rattle.std.proofs.Common.{◌≡◌, ◌<◌, ◌+◌, ℕ, length, drop}
use Rattle.std.specs.Vec.Iter.{into_iter_items, into_iter_len}
use Rattle.book.specs.Schedule.{keeping}
use Rattle.book.specs.Progress.{made_at}
use Rattle.book.proofs.inputs.keep.Given as goal

abbrev pub invariant-loop-list : goal.invariant-loop-list
invariant-loop-list l = record {
  counted : into_iter_len l.list-iterator ≡ length (into_iter_items l.list-iterator);
  left : l.place + length (into_iter_items l.list-iterator) ≡ length l.entries;
  size : length l.made.items ≡ length l.fn.made.items;
  kept : (n : ℕ) → l.before < n → keeping (made_at l.before l.made.items) (drop l.place l.entries) (into_iter_items l.list-iterator) n ≡ keeping (made_at l.before l.fn.made.items) l.entries l.fn.lists n;
}
