use Rattle.std.proofs.Common.{◌≡◌, ◌≤◌, take, count_by}
use Rattle.book_opening.specs.Tally.{is_counted}
use Rattle.book_opening.proofs.tally.count.Given as goal

abbrev pub invariant-loop-rec : goal.invariant-loop-rec
invariant-loop-rec l = record {
  within : l.count ≤ l.rec-index;
  same : l.count ≡ count_by (is_counted l.kind) (take l.rec-index l.records);
}
