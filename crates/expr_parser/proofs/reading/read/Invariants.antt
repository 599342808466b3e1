use Rattle.std.proofs.Common.{◌≤◌, ◌-◌, length}
use Rattle.zbx_types.specs.Limits.{longest_expression}
use Rattle.expr_parser.specs.View.{state}
use Rattle.expr_parser.proofs.Places.{Reached}
use Rattle.expr_parser.proofs.reading.read.Given as goal

abbrev pub invariant-loop-count : goal.invariant-loop-count
invariant-loop-count l = record {
  within : l.count ≤ length l.text;
  fits : l.count ≤ longest_expression;
  reached : Reached l.text l.count (state l.state.value);
}

abbrev pub decreases-loop-count : goal.decreases-loop-count
decreases-loop-count l = length l.text - l.count
