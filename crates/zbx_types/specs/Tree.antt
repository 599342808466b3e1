-- Expressions as trees.
use Rattle.std.specs.Prelude.{◌≡◌, ℕ, ◌+◌, ◌==◌, ℤ, pos, unsigned_abs, cond, List, [], ◌∷◌, refl}
use Rattle.std.proofs.Common.{ap, ◌∙◌}
use Rattle.std.specs.Coded.{Coded, code_by, coded×, coded_ℕ, coded_ℤ, coded_list}
use Rattle.zbx_types.specs.declared.expr.Op.{Op}
use Rattle.zbx_types.specs.declared.expr.Op.TheVariants.{Or, And, Eq, Ne, Lt, Le, Gt, Ge, Add, Sub, Mul, Div}

-- A constant in millionths, the place of a call, or an operator over trees.
pub data Tree : Type 0 where
  constant : (z : ℤ) → Tree
  call : (place : ℕ) → Tree
  negative : (a : Tree) → Tree
  negation : (a : Tree) → Tree
  binary : (op : Op) (a b : Tree) → Tree

-- how many nodes a tree has
abbrev pub tree_size : Tree → ℕ
tree_size (constant z) = 1
tree_size (call place) = 1
tree_size (negative a) = tree_size a + 1
tree_size (negation a) = tree_size a + 1
tree_size (binary op a b) = tree_size a + tree_size b + 1

-- ---- how the logic stores a tree: its nodes, operands first

-- the tag of an operator's node, and the operator of a tag
abbrev op_tag : Op → ℕ
op_tag Or = 4
op_tag And = 5
op_tag Eq = 6
op_tag Ne = 7
op_tag Lt = 8
op_tag Le = 9
op_tag Gt = 10
op_tag Ge = 11
op_tag Add = 12
op_tag Sub = 13
op_tag Mul = 14
op_tag Div = 15

-- the operator of a tag
abbrev tag_op : ℕ → Op
tag_op n =
    cond (n == 4) Or (cond (n == 5) And (cond (n == 6) Eq (cond (n == 7) Ne (cond (n == 8) Lt (cond (n == 9) Le
    (cond (n == 10) Gt (cond (n == 11) Ge (cond (n == 12) Add (cond (n == 13) Sub (cond (n == 14) Mul Div))))))))))

-- a tree's nodes, each a tag with a number, before those of the rest
abbrev nodes : Tree → List (ℕ × ℤ) → List (ℕ × ℤ)
nodes (constant z) rest = (0, z) ∷ rest
nodes (call place) rest = (1, pos place) ∷ rest
nodes (negative a) rest = nodes a ((2, pos 0) ∷ rest)
nodes (negation a) rest = nodes a ((3, pos 0) ∷ rest)
nodes (binary op a b) rest = nodes a (nodes b ((op_tag op, pos 0) ∷ rest))

-- the stack of trees after the node of a sign
abbrev negative_top : List Tree → List Tree
negative_top [] = []
negative_top (a ∷ stack) = negative a ∷ stack

-- the stack of trees after the node of a `not`
abbrev negation_top : List Tree → List Tree
negation_top [] = []
negation_top (a ∷ stack) = negation a ∷ stack

-- the stack of trees after the node of an operator between two
abbrev binary_top : Op → List Tree → List Tree
binary_top op [] = []
binary_top op (b ∷ []) = []
binary_top op (b ∷ a ∷ stack) = binary op a b ∷ stack

-- the stack after a node with this tag and number
abbrev stacked : ℕ → ℤ → List Tree → List Tree
stacked n z stack =
    cond (n == 0) (constant z ∷ stack) (cond (n == 1) (call (unsigned_abs z) ∷ stack)
    (cond (n == 2) (negative_top stack) (cond (n == 3) (negation_top stack) (binary_top (tag_op n) stack))))

-- the tree that is left
abbrev top : List Tree → Tree
top [] = call 0
top (a ∷ stack) = a

-- the stack after all these nodes
abbrev rebuilt : List Tree → List (ℕ × ℤ) → List Tree
rebuilt stack [] = stack
rebuilt stack (node ∷ rest) = rebuilt (stacked node.0 node.1 stack) rest

binary_back : (op : Op) (a b : Tree) (stack : List Tree) → stacked (op_tag op) (pos 0) (b ∷ a ∷ stack) ≡ binary op a b ∷ stack
binary_back Or a b stack = refl
binary_back And a b stack = refl
binary_back Eq a b stack = refl
binary_back Ne a b stack = refl
binary_back Lt a b stack = refl
binary_back Le a b stack = refl
binary_back Gt a b stack = refl
binary_back Ge a b stack = refl
binary_back Add a b stack = refl
binary_back Sub a b stack = refl
binary_back Mul a b stack = refl
binary_back Div a b stack = refl

nodes_back : (t : Tree) (stack : List Tree) (rest : List (ℕ × ℤ)) → rebuilt stack (nodes t rest) ≡ rebuilt (t ∷ stack) rest
nodes_back (constant z) stack rest = refl
nodes_back (call place) stack rest = refl
nodes_back (negative a) stack rest = nodes_back a stack ((2, pos 0) ∷ rest)
nodes_back (negation a) stack rest = nodes_back a stack ((3, pos 0) ∷ rest)
nodes_back (binary op a b) stack rest =
    nodes_back a stack (nodes b ((op_tag op, pos 0) ∷ rest)) ∙ nodes_back b (a ∷ stack) ((op_tag op, pos 0) ∷ rest)
    ∙ ap (λ s. rebuilt s rest) (binary_back op a b stack)

-- the nodes of a tree give it back
pub tree_back : (t : Tree) → top (rebuilt [] (nodes t [])) ≡ t
tree_back t = ap top (nodes_back t [] [])

-- trees are coded by their nodes
abbrev pub tree_code : Coded Tree
tree_code = code_by (List (ℕ × ℤ)) (coded_list (coded× coded_ℕ coded_ℤ)) (λ t. nodes t []) (λ ns. top (rebuilt [] ns)) tree_back
