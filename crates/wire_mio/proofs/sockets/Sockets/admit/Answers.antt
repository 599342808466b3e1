use Rattle.std.proofs.Common.{subst, sym, refl, Some}
use Rattle.wire_mio.specs.Tables.{Tells, is_live, held_in, fresh}
use Rattle.wire_mio.proofs.Telling.{goes_opened}
use Rattle.wire_mio.proofs.sockets.Sockets.admit.Goals as goal

pub returns-clause-goes_on : goal.returns-clause-goes_on
returns-clause-goes_on c = λ d told tells. subst (λ events. Tells d told (is_live (held_in c.put.new.self d)) events) (sym c.push.ensures.events) (goes_opened c.in-Some.next c.args.at (Some (fresh c.make_place.new.peers.moment)) c.make_place.new.peers c.put.new.self c.make_place.new.queue.events c.put.ensures refl d told (c.if-not-make_place.ensures.goes_on d told tells))
