use Rattle.std.proofs.Common.{◌≡◌, ◌++◌, length}
use Rattle.event_text.specs.Lines.{escaped}
use Rattle.event_text.proofs.fields.put_escaped.Given as goal

abbrev pub invariant-loop-rest : goal.invariant-loop-rest
invariant-loop-rest l = record {
  so_far : l.out.back ++ escaped l.rest ≡ l.fn.out.back ++ escaped l.text;
  front : l.out.front ≡ l.fn.out.front;
}

abbrev pub decreases-loop-rest : goal.decreases-loop-rest
decreases-loop-rest l = length l.rest
