use Rattle.sender_json.proofs.Kept.{body-held}
use Rattle.sender_json.proofs.reading.body_of.Goals as goal

pub returns : goal.returns
returns g c of d h = body-held of c.args.top d _ _ h c.in_ok-request.ensures c.in_ok-host.ensures
