use Rattle.sender_json.proofs.Kept.{asked-held}
use Rattle.sender_json.proofs.parts.asked_of.Goals as goal

pub returns : goal.returns
returns c d h = asked-held c.args.parts.now d _ _ _ _ h c.in_ok-copied.ensures c.in_ok-copied-2.ensures c.in_ok-value_at.ensures c.clock_of.ensures
