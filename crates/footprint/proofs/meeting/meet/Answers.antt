use Rattle.std.proofs.Common.{◌∙◌}
use Rattle.footprint.proofs.Walks.{walk_is}
use Rattle.footprint.proofs.meeting.meet.Goals as goal

pub returns : goal.returns
returns c = c.walk_meets.ensures ∙ walk_is c.args.a.now c.args.b.now c.requires.first c.requires.second
