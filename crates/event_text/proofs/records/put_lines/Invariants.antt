use Rattle.std.proofs.Common.{◌≡◌, ◌++◌, take}
use Rattle.event_text.specs.Lines.{lines_of}
use Rattle.event_text.proofs.records.put_lines.Given as goal

abbrev pub invariant-loop-rec : goal.invariant-loop-rec
invariant-loop-rec l = record {
  so_far : l.out.back ≡ l.fn.out.back ++ lines_of (take l.rec-index l.records);
  front : l.out.front ≡ l.fn.out.front;
}
