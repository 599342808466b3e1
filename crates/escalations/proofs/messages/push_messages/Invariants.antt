use Rattle.std.proofs.Common.{◌≡◌, ◌++◌, drop, map}
use Rattle.escalations.specs.Messages.{message_to}
use Rattle.escalations.proofs.messages.push_messages.Given as goal

abbrev pub invariant-loop-recipient : goal.invariant-loop-recipient
invariant-loop-recipient l = l.out ++ map (message_to l.sender.conf.now l.sender.problem.now l.sender.recovered l.sender.action.now l.sender.step l.subject l.body) (drop l.recipient-index l.recipients) ≡ l.fn.out ++ map (message_to l.sender.conf.now l.sender.problem.now l.sender.recovered l.sender.action.now l.sender.step l.subject l.body) l.recipients
