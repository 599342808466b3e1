use Rattle.std.proofs.Common.{◌≡◌, map, length}
use Rattle.syncer_gate.specs.Marks.{reopened}
use Rattle.syncer_gate.specs.Window.{AreWaiting}
use Rattle.syncer_gate.proofs.MarkLemmas.{AreReopened}
use Rattle.syncer_gate.proofs.marking.reopen.Given as goal

abbrev pub invariant-loop-place : goal.invariant-loop-place
invariant-loop-place l = record {
  size : length l.marks.items ≡ length l.fn.marks.items;
  marks : map reopened l.marks.items ≡ map reopened l.fn.marks.items;
  none : AreReopened l.place l.marks.items;
  waiting : AreWaiting l.high l.marks.items;
}
