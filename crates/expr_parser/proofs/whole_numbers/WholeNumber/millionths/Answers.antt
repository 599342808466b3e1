use Rattle.std.proofs.Common.{sym}
use Rattle.expr_parser.proofs.WrittenWholes.{written_some}
use Rattle.expr_parser.proofs.whole_numbers.WholeNumber.millionths.Goals as goal

pub returns : goal.returns
returns c = rw (sym c.self.view_is) (written_some c.self.inside.text c.self.inside.number c.self.invariant.0 c.self.invariant.1)
