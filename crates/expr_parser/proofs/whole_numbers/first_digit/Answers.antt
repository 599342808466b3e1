use Rattle.expr_parser.proofs.WrittenWholes.{written_one}
use Rattle.expr_parser.proofs.whole_numbers.first_digit.Goals as goal

pub whole_number-requires : goal.whole_number-requires
whole_number-requires c = rw c.in_ok-text.ensures (written_one c.args.byte c.requires)
