use Rattle.zbx_types.specs.Tree.{tree_size}
use Rattle.zbx_types.specs.Trees.{tree_of}
use Rattle.conf_index.proofs.plans.+add.Given as goal

abbrev pub decreases-add : goal.decreases-add
decreases-add l = tree_size (tree_of l.expr.now)
