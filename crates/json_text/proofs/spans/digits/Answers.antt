use Rattle.std.proofs.Common.{sym}
use Rattle.json_text.proofs.Moving.{digits_front}
use Rattle.json_text.proofs.Runs.{no_step}
use Rattle.json_text.proofs.spans.digits.Goals as goal

pub returns-in_ok-extend-clause-goes : goal.returns-in_ok-extend-clause-goes
returns-in_ok-extend-clause-goes c = λ k.
    digits_front k c.args.place c.args.text.now c.extend.new.self c.digit_len-length.result c.args.rest.now (sym c.if-keeps.ensures) c.digit_len-length.ensures c.in_ok-extend.ensures.ok

pub returns-else-keeps-clause-goes : goal.returns-else-keeps-clause-goes
returns-else-keeps-clause-goes c = λ k. no_step _
