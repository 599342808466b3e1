-- The values of nodes.
use Rattle.std.proofs.Common.{◌≡◌, ℕ, List, [], ◌∷◌, Option, Some, ℤ, refl, sym, ◌∙◌, ap, subst, length}
use Rattle.zbx_types.specs.Tree.{Tree, constant, call, negative, negation, binary}
use Rattle.expr_eval.specs.Values.{value_over}
use Rattle.conf_index.specs.Plans.{flat}
use Rattle.conf_index.specs.declared.plans.Node.{Node}
use Rattle.conf_index.specs.declared.plans.Node.TheVariants.{Const, Called, Neg, Not, Bin}

-- what the first node of a tree says of it, and of the nodes behind, over the values of calls
abbrev pub Heads : (ℕ → Option ℤ) → Tree → List Node → List Node → Node → Type 0
Heads calls t more behind (Const z) = (Some z ≡ value_over calls t) × (behind ≡ more)
Heads calls t more behind (Called place) = (calls place ≡ value_over calls t) × (behind ≡ more)
Heads calls t more behind Neg = (a : Tree) × (t ≡ negative a) × (behind ≡ flat a more)
Heads calls t more behind Not = (a : Tree) × (t ≡ negation a) × (behind ≡ flat a more)
Heads calls t more behind (Bin op) = (a : Tree) × (b : Tree) × (t ≡ binary op a b) × (behind ≡ flat a (flat b more))

pub heads : (calls : ℕ → Option ℤ) (t : Tree) (more : List Node) (node : Node) (behind : List Node) → node ∷ behind ≡ flat t more → Heads calls t more behind node
heads calls (constant z) more node behind e =
    let n : node ≡ Const z = cc in let r : behind ≡ more = cc in subst (Heads calls (constant z) more behind) (sym n) (refl, r)
heads calls (call place) more node behind e =
    let n : node ≡ Called place = cc in let r : behind ≡ more = cc in subst (Heads calls (call place) more behind) (sym n) (refl, r)
heads calls (negative a) more node behind e =
    let n : node ≡ Neg = cc in let r : behind ≡ flat a more = cc in subst (Heads calls (negative a) more behind) (sym n) (a, refl, r)
heads calls (negation a) more node behind e =
    let n : node ≡ Not = cc in let r : behind ≡ flat a more = cc in subst (Heads calls (negation a) more behind) (sym n) (a, refl, r)
heads calls (binary op a b) more node behind e =
    let n : node ≡ Bin op = cc in let r : behind ≡ flat a (flat b more) = cc in subst (Heads calls (binary op a b) more behind) (sym n) (a, b, refl, r)

-- a tree has a node
pub no_tree : (t : Tree) (more : List Node) → [] ≡ flat t more → ⊥
no_tree (constant z) more e = cc
no_tree (call place) more e = cc
no_tree (negative a) more e = cc
no_tree (negation a) more e = cc
no_tree (binary op a b) more e = cc

pub headed : (calls : ℕ → Option ℤ) (t : Tree) (nodes more : List Node) (first node : Node) (behind : List Node) → nodes ≡ first ∷ behind → first ≡ node → nodes ≡ flat t more → Heads calls t more behind node
headed calls t nodes more first node behind split is e = heads calls t more node behind (ap (λ n. n ∷ behind) (sym is) ∙ sym split ∙ e)

pub no_nodes : (t : Tree) (nodes more : List Node) → length nodes ≡ 0 → nodes ≡ flat t more → ⊥
no_nodes t [] more z e = no_tree t more e
no_nodes t (n ∷ nodes) more z e = cc
