use Rattle.std.proofs.Common.{◌-◌, ◌≡◌, ◌≤◌, ◌+◌, length, IfSome}
use Rattle.wire_mio.proofs.Rereading.{Left}
use Rattle.wire_mio.proofs.reread.find_other.Given as goal

abbrev pub invariant-loop-place : goal.invariant-loop-place
invariant-loop-place g l = record {
  left : IfSome (g.W.Write.contents l.fn.writer) (Left l.at l.bytes l.place l.rest);
  later : l.at ≤ l.place;
  ends : l.place + length l.rest ≡ l.at + length l.bytes;
  same : g.W.Write.contents l.writer ≡ g.W.Write.contents l.fn.writer;
}

abbrev pub decreases-loop-place : goal.decreases-loop-place
decreases-loop-place g l = l.held - l.place
