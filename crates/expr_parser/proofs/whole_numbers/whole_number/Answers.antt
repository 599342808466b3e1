use Rattle.std.proofs.Common.{arith, refl}
use Rattle.expr_parser.proofs.WrittenWholes.{written_passes, written_fails}
use Rattle.expr_parser.proofs.whole_numbers.whole_number.Goals.{else-number-le-GREATEST-via-then-number-le-GREATEST+else-number-most, else-number-le-GREATEST-via-else-number-le-GREATEST}
use Rattle.expr_parser.proofs.whole_numbers.whole_number.Goals as goal

pub returns-then-number-most : goal.returns-then-number-most
returns-then-number-most c = rw (written_passes c.args.most c.args.number c.args.text c.requires (omega arith) (omega arith)) refl

pub returns-else-number-le-GREATEST : goal.returns-else-number-le-GREATEST
returns-else-number-le-GREATEST c =
    rw (written_fails c.args.most c.args.number c.args.text c.requires (λ l m. elim c.else-number-le-GREATEST.branch [
      | else-number-le-GREATEST-via-then-number-le-GREATEST+else-number-most w ↦ absurd (omega arith)
      | else-number-le-GREATEST-via-else-number-le-GREATEST w ↦ absurd (omega arith)
    ])) refl
