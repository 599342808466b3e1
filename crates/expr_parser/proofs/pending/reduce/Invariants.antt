use Rattle.std.proofs.Common.{◌≡◌, reverse, length}
use Rattle.expr_parser.specs.Machine as machine
use Rattle.zbx_types.specs.Trees.{tree_of}
use Rattle.expr_parser.proofs.pending.reduce.Given as goal

abbrev pub invariant-loop-alloc : goal.invariant-loop-alloc
invariant-loop-alloc l = machine.reduced l.level (reverse l.stack.items) (tree_of l.operand) ≡ machine.reduced l.level (reverse l.initial.stack.items) (tree_of l.initial.operand)

abbrev pub decreases-loop-alloc : goal.decreases-loop-alloc
decreases-loop-alloc l = length l.stack.items
