use Rattle.std.proofs.Common.{◌≡◌, ◌++◌, length}
use denote.Shadow.{shadow}
use denote.Text.{Utf8}
use Rattle.expr_text.specs.Written.{escaped}
use Rattle.expr_text.proofs.call_text.put_escaped.Given as goal

abbrev pub invariant-loop-front : goal.invariant-loop-front
invariant-loop-front l = record { so_far : l.out ++ escaped l.rest ≡ l.fn.out ++ escaped l.fn.text; utf8 : shadow (Utf8 l.rest) }

abbrev pub decreases-loop-front : goal.decreases-loop-front
decreases-loop-front l = length l.rest
