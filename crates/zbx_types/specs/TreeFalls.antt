-- Each operand has a smaller tree than its expression.
use Rattle.std.specs.Prelude.{◌≤◌, max}
use Rattle.std.proofs.Common.{arith}
use Rattle.zbx_types.specs.Tree.{tree_size}
use Rattle.zbx_types.specs.Trees.{tree_of}
use Rattle.zbx_types.specs.declared.expr.Expr.{Expr}
use Rattle.zbx_types.specs.declared.expr.Expr.TheVariants.{Const, Call, Neg, Not, Bin}
use Rattle.zbx_types.specs.declared.expr.Operand.TheDeep.{deep-Expr}

pub depth_le_size : (e : Expr) → max (deep-Expr e) 0 ≤ tree_size (tree_of e)
depth_le_size (Const z) = omega arith
depth_le_size (Call place) = omega arith
depth_le_size (Neg a) = omega arith
depth_le_size (Not a) = omega arith
depth_le_size (Bin op a b) = omega arith
