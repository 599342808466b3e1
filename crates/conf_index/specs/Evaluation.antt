-- The values of expressions, over those of their calls. None is Unknown.
use Rattle.std.specs.Prelude.{◌≡◌, ℕ, List, Option, Some, None, ℤ, slice_index_or}
use Rattle.zbx_types.specs.Tree.{Tree}
use Rattle.zbx_types.specs.Trees.{tree_of}
use Rattle.zbx_types.specs.declared.expr.Expr.{Expr}
use Rattle.expr_eval.specs.Values.{value_over}
use Rattle.conf_index.specs.declared.evaluation.Found.{Found}
use Rattle.conf_index.specs.declared.plans.Node.{Node}

-- values by their places; None behind the last
abbrev pub value_in : List (Option ℤ) → ℕ → Option ℤ
value_in values place = slice_index_or values place None

-- the value of an expression over the values of the calls
abbrev pub expression_value : (ℕ → Option ℤ) → Expr → Option ℤ
expression_value calls expr = value_over calls (tree_of expr)

-- the value of an expression that a trigger may not have
abbrev pub recovery_value : (ℕ → Option ℤ) → Option Expr → Option ℤ
recovery_value calls None = None
recovery_value calls (Some expr) = expression_value calls expr

-- what is found is the value of a tree, and these nodes behind it
pub record Evaluates (calls : ℕ → Option ℤ) (t : Tree) (more : List Node) (found : Found) : Type 0 where
  pub value : found.value ≡ value_over calls t
  pub rest : found.rest.now ≡ more
