-- What stands behind the frame is the end of the piece.
use Rattle.zbxd_frame.proofs.FrameLaws.{EndsWith-fed}
use Rattle.zbxd_frame.proofs.feed.Feed.push.Goals as goal

pub returns-clause-rest : goal.returns-clause-rest
returns-clause-rest c body behind = EndsWith-fed c.take_in.result c.args.self.now c.take_in.new.self c.args.piece.now body behind c.take_in.ensures.taken c.take_in.ensures.err c.take_in.ensures.right
