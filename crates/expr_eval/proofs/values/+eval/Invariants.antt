use Rattle.zbx_types.specs.Tree.{tree_size}
use Rattle.zbx_types.specs.Trees.{tree_of}
use Rattle.expr_eval.proofs.values.+eval.Given as goal

abbrev pub decreases-eval : goal.decreases-eval
decreases-eval l = tree_size (tree_of l.expr.now)
