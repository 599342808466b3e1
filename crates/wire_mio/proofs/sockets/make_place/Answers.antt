use Rattle.std.proofs.Common.{subst, sym, refl, None}
use Rattle.wire_mio.specs.Tables.{Tells, is_live, held_in}
use Rattle.wire_mio.proofs.Telling.{goes_broke}
use Rattle.wire_mio.proofs.sockets.make_place.Goals as goal

pub returns-in-Instead-clause-goes_on : goal.returns-in-Instead-clause-goes_on
returns-in-Instead-clause-goes_on c = λ d told tells. subst (λ events. Tells d told (is_live (held_in c.make_room.new.self d)) events) (sym c.push.ensures.events) (goes_broke c.in-Instead.conn c.args.at None c.args.peers.now c.make_room.new.self c.args.queue.now.events c.in-Instead.ensures.live.1 refl c.in-Instead.ensures.live.0 d told tells)
