use Rattle.std.proofs.Common.{◌≡◌, ◌≤◌, drop}
use Rattle.server_run.specs.Sending.{Outgoing, outgoing_from, outgoing, Shows}
use Rattle.server_run.proofs.delivery.deliver_all.Given as goal

-- what the answers so far hand out is shown, and the others hand out the rest behind it
abbrev pub invariant-loop-answer : goal.invariant-loop-answer
invariant-loop-answer g l = record {
  out : (so_far : Outgoing) × (outgoing_from so_far (drop l.answer-index l.answers) ≡ outgoing l.answers) × Shows (g.W.Wire.tells l.fn.wire) (g.W.Wire.tells l.wire) so_far.replies so_far.shut × (l.stop ≡ so_far.stop);
  later : (g.W.Wire.tells l.fn.wire).unsent ≤ (g.W.Wire.tells l.wire).unsent;
  left : (g.W.Wire.tells l.wire).left ≡ (g.W.Wire.tells l.fn.wire).left;
  given : (g.W.Wire.tells l.wire).given ≡ (g.W.Wire.tells l.fn.wire).given;
  faults : (g.W.Wire.tells l.wire).faults ≡ (g.W.Wire.tells l.fn.wire).faults;
}
