use Rattle.expr_parser.proofs.WrittenWholes.{written_more}
use Rattle.expr_parser.proofs.whole_numbers.WholeNumber.more.Goals as goal

pub whole_number-requires : goal.whole_number-requires
whole_number-requires c = rw c.in_ok-text.ensures (written_more c.self.inside.text c.self.inside.number c.args.byte c.self.invariant.0 c.requires)
