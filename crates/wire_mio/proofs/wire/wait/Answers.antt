use Rattle.std.proofs.Common.{subst}
use Rattle.wire_mio.specs.Tables.{Tells, is_live, held_in}
use Rattle.wire_mio.proofs.Telling.{goes_from}
use Rattle.wire_mio.proofs.wire.wait.Goals as goal

pub returns-in-Some-pop-clause-ends : goal.returns-in-Some-pop-clause-ends
returns-in-Some-pop-clause-ends g c = λ none d. subst (λ events. Tells d (is_live (held_in c.args.peers.now d)) (is_live (held_in c.looks.peers d)) events) c.in-Some-pop.ensures.events (goes_from c.args.peers.now c.looks.peers c.args.queue.now.events c.looks.queue.events none c.looks.invariant.1 d)
