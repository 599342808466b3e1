-- What is left in the room of the bytes is the body.
use Rattle.std.proofs.Common.{rules}
use Rattle.std.proofs.lemmas.List.{drop-take}
use Rattle.zbxd_frame.proofs.feed.body_of.Goals as goal

pub returns : goal.returns
returns c = rw (← drop-take 13 c.args.size c.args.bytes) (search rules)
