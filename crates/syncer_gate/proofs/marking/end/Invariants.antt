use Rattle.std.proofs.Common.{◌≡◌, ◌<◌, ℕ, false, map, length, get_or}
use Rattle.syncer_gate.specs.declared.marks.Mark.TheVariants.{Pending}
use Rattle.syncer_gate.specs.Marks.{is_taken, ended}
use Rattle.syncer_gate.specs.Window.{AreWaiting}
use Rattle.syncer_gate.proofs.marking.end.Given as goal

abbrev pub invariant-loop-place : goal.invariant-loop-place
invariant-loop-place l = record {
  size : length l.marks.items ≡ length l.fn.marks.items;
  marks : map (ended l.id l.to) l.marks.items ≡ map (ended l.id l.to) l.fn.marks.items;
  none : (i : ℕ) → i < l.place → is_taken l.id (get_or l.marks.items i Pending) ≡ false;
  waiting : AreWaiting l.high l.marks.items;
}
