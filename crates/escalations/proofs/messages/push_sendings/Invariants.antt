use Rattle.std.proofs.Common.{◌≡◌, ◌++◌, drop}
use Rattle.std.specs.Prelude.{flat_map}
use Rattle.escalations.specs.Messages.{sending_records}
use Rattle.escalations.proofs.messages.push_sendings.Given as goal

abbrev pub invariant-loop-sending : goal.invariant-loop-sending
invariant-loop-sending l = l.out ++ flat_map (sending_records l.conf l.problem l.fn.now l.action) (drop l.sending-index l.sendings) ≡ l.fn.out ++ flat_map (sending_records l.conf l.problem l.fn.now l.action) l.sendings
