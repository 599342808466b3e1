use Rattle.std.proofs.Common.{◌≡◌, drop}
use Rattle.expr_parser.specs.Grammar.{looks_at_item}
use Rattle.expr_parser.proofs.reading.looks.Given as goal

abbrev pub invariant-loop-call : goal.invariant-loop-call
invariant-loop-call l = looks_at_item (drop l.call-index l.calls) ≡ looks_at_item l.calls
