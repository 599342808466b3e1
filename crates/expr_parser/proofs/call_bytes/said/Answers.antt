use Rattle.std.proofs.Common.{sym}
use Rattle.expr_parser.proofs.SlotViews.{utf8_some}
use Rattle.expr_parser.proofs.call_bytes.said.Goals as goal

pub returns-in-Some : goal.returns-in-Some
returns-in-Some c =
    let u = utf8_some c.args.text c.in-Some.text (sym c.in-Some.ensures) in
    rw (u.0, u.1) (rw c.put_text.ensures at c.delivered.ensures)
