-- The tree of an expression, and the calls that it names.
use Rattle.std.specs.Prelude.{ℕ, ◌<◌}
use Rattle.zbx_types.specs.Tree.{Tree, constant, call, negative, negation, binary}
use Rattle.zbx_types.specs.declared.expr.Expr.{Expr}
use Rattle.zbx_types.specs.declared.expr.Expr.TheVariants.{Const, Call, Neg, Not, Bin}

-- the tree of an expression
abbrev pub tree_of : Expr → Tree
tree_of (Const z) = constant z
tree_of (Call place) = call place
tree_of (Neg a) = negative a
tree_of (Not a) = negation a
tree_of (Bin op a b) = binary op a b

-- each call names one of the first n of a list
abbrev pub CallsBelow : ℕ → Tree → Type 0
CallsBelow n (constant z) = Unit {0}
CallsBelow n (call place) = place < n
CallsBelow n (negative a) = CallsBelow n a
CallsBelow n (negation a) = CallsBelow n a
CallsBelow n (binary op a b) = CallsBelow n a × CallsBelow n b
