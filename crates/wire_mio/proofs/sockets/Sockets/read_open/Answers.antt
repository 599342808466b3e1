use Rattle.std.proofs.Common.{subst, sym, refl, None, ◌∙◌}
use Rattle.std.specs.Option.{option_map}
use Rattle.wire_mio.specs.Tables.{Tells, is_live, held_in, ended_at}
use Rattle.wire_mio.proofs.Telling.{goes_same, goes_piece, goes_ended, goes_broke, ended_live}
use Rattle.wire_mio.proofs.sockets.Sockets.read_open.Goals as goal

pub returns-in-Piece-clause-goes_on : goal.returns-in-Piece-clause-goes_on
returns-in-Piece-clause-goes_on c = λ d told tells. subst (λ events. Tells d told (is_live (held_in c.hear.new.self d)) events) (sym c.push.ensures.events) (goes_piece c.args.conn c.args.at c.in-Piece.bytes c.args.peers.now c.hear.new.self c.args.queue.now.events (λ e. c.hear.ensures.live e ∙ c.in-Piece.ensures.live e) c.requires.live d told tells)

pub returns-in-End-clause-goes_on : goal.returns-in-End-clause-goes_on
returns-in-End-clause-goes_on c = λ d told tells. subst (λ events. Tells d told (is_live (held_in c.end.new.self d)) events) (sym c.push-in-End.ensures.events) (goes_ended c.args.conn c.args.at (option_map (ended_at c.read.new.self.moment) (held_in c.read.new.self c.args.conn)) c.read.new.self c.end.new.self c.args.queue.now.events c.end.ensures.one (ended_live c.read.new.self.moment (held_in c.read.new.self c.args.conn)) (c.in-End.ensures.live c.args.conn ∙ c.requires.live) d told (goes_same c.args.peers.now c.read.new.self c.args.queue.now.events c.in-End.ensures.live d told tells))

pub returns-in-Lost-clause-goes_on : goal.returns-in-Lost-clause-goes_on
returns-in-Lost-clause-goes_on c = λ d told tells. subst (λ events. Tells d told (is_live (held_in c.remove.new.self d)) events) (sym c.push-in-Lost.ensures.events) (goes_broke c.args.conn c.args.at None c.read.new.self c.remove.new.self c.args.queue.now.events c.remove.ensures.one refl (c.in-Lost.ensures.live c.args.conn ∙ c.requires.live) d told (goes_same c.args.peers.now c.read.new.self c.args.queue.now.events c.in-Lost.ensures.live d told tells))
