use Rattle.std.proofs.Common.{rules}
use Rattle.json_text.proofs.Moving.{plain_front}
use Rattle.json_text.proofs.Runs.{no_step}
use Rattle.json_text.proofs.spans.plain.Goals as goal

pub returns-in_ok-extend-in-Between-clause-goes : goal.returns-in_ok-extend-in-Between-clause-goes
returns-in_ok-extend-in-Between-clause-goes c = λ u k.
    plain_front u k c.args.spot.now.place c.args.spot.now.text c.extend.new.self c.plain_len-length.result c.args.rest.now c.in-Between.is c.plain_len-length.ensures c.in_ok-extend-in-Between.ensures.ok

pub returns-in_default : goal.returns-in_default
returns-in_default c = record { within = search rules; goes = λ u k. no_step _ }
