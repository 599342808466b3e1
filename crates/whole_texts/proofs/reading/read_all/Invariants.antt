use Rattle.std.proofs.Common.{◌≤◌, length}
use Rattle.std.specs.Io.KnownBytes.{Consumes}
use Rattle.whole_texts.proofs.reading.read_all.Given as goal

abbrev pub invariant-loop : goal.invariant-loop
invariant-loop g l = record {
  later : g.S.Source.faults l.fn.source ≤ g.S.Source.faults l.source;
  taken : Consumes (g.S.Source.left l.fn.source) (g.S.Source.left l.source) l.text;
  turns : l.counter ≤ length l.text;
  few : length l.text ≤ l.most;
}
