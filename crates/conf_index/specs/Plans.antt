-- Expressions of triggers that lie flat: each node stands before its operands, the left one first.
use Rattle.std.specs.Prelude.{List, [], ◌∷◌, Option, Some, None}
use Rattle.zbx_types.specs.Tree.{Tree, constant, call, negative, negation, binary}
use Rattle.zbx_types.specs.Trees.{tree_of}
use Rattle.zbx_types.specs.declared.expr.Expr.{Expr}
use Rattle.zbx_types.specs.declared.triggers.Trigger.{Trigger}
use Rattle.conf_index.specs.declared.plans.Node.{Node}
use Rattle.conf_index.specs.declared.plans.Node.TheVariants.{Const, Called, Neg, Not, Bin}

-- the nodes of a tree, before some more
abbrev pub flat : Tree → List Node → List Node
flat (constant z) rest = Const z ∷ rest
flat (call place) rest = Called place ∷ rest
flat (negative a) rest = Neg ∷ flat a rest
flat (negation a) rest = Not ∷ flat a rest
flat (binary op a b) rest = Bin op ∷ flat a (flat b rest)

-- the nodes of a trigger's expression
abbrev pub plan_of : Trigger → List Node
plan_of trigger = flat (tree_of trigger.expr) []

-- the nodes of an expression that a trigger may not have
abbrev pub nodes_of : Option Expr → List Node
nodes_of None = []
nodes_of (Some expr) = flat (tree_of expr) []

-- the nodes of a trigger's recovery expression
abbrev pub recovery_plan_of : Trigger → List Node
recovery_plan_of trigger = nodes_of trigger.recovery_expr
