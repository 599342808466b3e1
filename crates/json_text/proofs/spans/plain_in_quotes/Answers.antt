use Rattle.std.proofs.Common.{arith}
use Rattle.std.proofs.lemmas.Result.{IfOk-weaker}
use Rattle.json_text.proofs.Moving.{found_in_quotes}
use Rattle.json_text.proofs.spans.plain_in_quotes.Goals as goal

pub returns-then-behind-length-eq34 : goal.returns-then-behind-length-eq34
returns-then-behind-length-eq34 c = IfOk-weaker c.from_utf8.result _ _
    (λ found read. found_in_quotes c.args.rest.now c.plain_len-length.result found _ (omega arith) c.if-rest-ne34.false c.plain_len-length.ensures c.if-length-behind.true c.if-behind-length-eq34.true read)
    c.from_utf8.ensures.read
