-- The written form of an expression is a text of it.
use Rattle.std.proofs.Common.{◌≡◌, ℕ, zero, suc, ◌+◌, ◌-◌, ◌≤◌, ◌<◌, List, [], ◌∷◌, ◌++◌, length, refl, ap, sym, subst, ◌∙◌, true, false, arith, Some, codes, length-append, append_assoc, append-nil, pos, slice_get}
use Rattle.zbx_types.specs.Tree.{Tree, constant, call, negative, negation, binary}
use Rattle.zbx_types.specs.declared.expr.Op.{Op}
use Rattle.zbx_types.specs.declared.expr.Op.TheVariants.{Or, And, Eq, Ne, Lt, Le, Gt, Ge, Add, Sub, Mul, Div}
use Rattle.zbx_types.specs.declared.calls.Call.{Call}
use Rattle.expr_parser.specs.Bytes.{is_gap, first_byte, AreBlanks, Point, behind, beginning}
use Rattle.expr_parser.specs.Calls.{IsCall, greatest_number}
use Rattle.expr_parser.specs.Grammar.{op_text, op_level, StandsApart, Spells, number, called, paren, minus, denied, tighter, joined, IsExpr}
use Rattle.expr_text.specs.Written.{written_call, is_simple, as_operand, written_of, operand_nesting, nesting}
use Rattle.expr_parser.proofs.Lists.{no_blanks, one_blank, last_snoc, held_behind, behind_one}
use Rattle.expr_text.proofs.WrittenNumbers.{constant_again, number_fits}
use Rattle.expr_text.proofs.WrittenCalls.{call_again}

-- ---- levels

-- a tighter level is also each looser one
looser : (n l m : ℕ) {p : Point} {d c : ℕ} {t : List ℕ} {e : Tree} {ks : List Call} → m ≡ n + l → Spells p d c m t e ks → Spells p d c l t e ks
looser zero l m {p} {d} {c} {t} {e} {ks} h s = subst (λ (v : ℕ). Spells p d c v t e ks) (let g : m ≡ l = omega (arith, h) in g) s
looser (suc n) l m h s = tighter (looser n (suc l) m (omega (arith, h)) s)

-- the level of an expression that stands alone
abbrev level_of : Tree → ℕ
level_of (constant z) = 8
level_of (call place) = 8
level_of (negative a) = 7
level_of (negation a) = 6
level_of (binary op a b) = op_level op

to_loosest : (l : ℕ) {p : Point} {d c : ℕ} {t : List ℕ} {e : Tree} {ks : List Call} → Spells p d c l t e ks → Spells p d c 0 t e ks
to_loosest l s = looser l 0 l (omega arith) s

low_level : (op : Op) → op_level op ≤ 5
low_level Or = omega arith
low_level And = omega arith
low_level Eq = omega arith
low_level Ne = omega arith
low_level Lt = omega arith
low_level Le = omega arith
low_level Gt = omega arith
low_level Ge = omega arith
low_level Add = omega arith
low_level Sub = omega arith
low_level Mul = omega arith
low_level Div = omega arith

-- ---- places of calls

place_of : (pre : List Call) (k : Call) (post : List Call) → slice_get (pre ++ k ∷ post) (length pre) ≡ Some k
place_of [] k post = refl
place_of (x ∷ pre) k post = place_of pre k post

-- ---- operands

-- an expression's written form is a text of it, on its own level, where `not` stands behind a gap
abbrev Reads : Tree → List Call → List Call → ℕ → Type 0
Reads e all ks c = (q : Point) (d : ℕ) → nesting e ≤ d → (is_simple e ≡ false → is_gap q.last ≡ true) → Spells q d c (level_of e) (written_of e all) e ks

in_parentheses : (d : ℕ) (q : Point) (e : Tree) (all ks : List Call) (c : ℕ) → Reads e all ks c → is_simple e ≡ false → suc (nesting e) ≤ d
    → Spells q d c 8 (codes "(" ++ written_of e all ++ codes ")") e ks
in_parentheses zero q e all ks c reads off n = absurd (omega arith)
in_parentheses (suc d) q e all ks c reads off n =
    paren [] (written_of e all) [] no_blanks (to_loosest (level_of e) (reads (behind q (40 ∷ [])) d (omega (arith, n)) (λ h. ap (λ (v : Point). is_gap v.last) (behind_one q 40)))) no_blanks refl

operand : (e : Tree) (all ks : List Call) (c : ℕ) → Reads e all ks c → (q : Point) (d : ℕ) → operand_nesting (is_simple e) (nesting e) ≤ d
    → Spells q d c 8 (as_operand (is_simple e) (written_of e all)) e ks
operand (constant z) all ks c reads q d n = reads q d n (λ h. absurd cc)
operand (call place) all ks c reads q d n = reads q d n (λ h. absurd cc)
operand (negative a) all ks c reads q d n = in_parentheses d q (negative a) all ks c reads refl n
operand (negation a) all ks c reads q d n = in_parentheses d q (negation a) all ks c reads refl n
operand (binary op a b) all ks c reads q d n = in_parentheses d q (binary op a b) all ks c reads refl n

space : AreBlanks (32 ∷ [])
space = one_blank 32 refl

apart : (op : Op) (q : Point) (t u : List ℕ) → StandsApart op (behind q (t ++ 32 ∷ [])).last (first_byte (32 ∷ u))
apart op q t u = λ h. (ap is_gap (last_snoc q t 32), refl)

joined_text : (t op u : List ℕ) → (((t ++ 32 ∷ []) ++ op) ++ 32 ∷ []) ++ u ≡ t ++ ((32 ∷ []) ++ (op ++ ((32 ∷ []) ++ u)))
joined_text t op u = simp append_assoc refl

-- ---- expressions

minus_reads : (a : Tree) (all ks : List Call) (c : ℕ) → Reads a all ks c → Reads (negative a) all ks c
minus_reads a all ks c reads = λ q d n g. minus [] (as_operand (is_simple a) (written_of a all)) no_blanks (operand a all ks c reads (behind q (45 ∷ [])) d n) refl

not_reads : (a : Tree) (all ks : List Call) (c : ℕ) → Reads a all ks c → Reads (negation a) all ks c
not_reads a all ks c reads = λ q d n g.
    denied (32 ∷ []) (as_operand (is_simple a) (written_of a all)) (g refl) space refl
    (tighter (operand a all ks c reads (behind q (110 ∷ 111 ∷ 116 ∷ 32 ∷ [])) d n)) refl

joined_reads : (op : Op) (a b : Tree) (all ks js : List Call) (c : ℕ) → Reads a all ks c → Reads b all js (c + length ks) → Reads (binary op a b) all (ks ++ js) c
joined_reads op a b all ks js c left right = λ q d n g.
    let t = as_operand (is_simple a) (written_of a all) in
    let u = as_operand (is_simple b) (written_of b all) in
    let low = low_level op in
    let lower : 8 ≡ (8 - op_level op) + op_level op = omega (arith, low) in
    let lower' : 8 ≡ (7 - op_level op) + suc (op_level op) = omega (arith, low) in
    joined op t (32 ∷ []) (32 ∷ []) u refl (looser (8 - op_level op) (op_level op) 8 lower (operand a all ks c left q d (omega (arith, n)))) space space (apart op q t u)
    (looser (7 - op_level op) (suc (op_level op)) 8 lower' (operand b all js (c + length ks) right (behind q (t ++ ((32 ∷ []) ++ (op_text op ++ (32 ∷ []))))) d (omega (arith, n))))
    (joined_text t (op_text op) u)

constant_reads : (n : ℕ) (all : List Call) (c : ℕ) → n ≤ greatest_number → Reads (constant (pos n)) all [] c
constant_reads n all c h = λ q d m g. number n (constant_again n h)

call_reads : (k : Call) (all : List Call) (c : ℕ) → c < 32 → slice_get all c ≡ Some k → ((q : Point) → IsCall q (written_call k) k) → Reads (call c) all (k ∷ []) c
call_reads k all c few at again = λ q d m g. rw at (called k few (again q))

-- the bounds of parts
inner_held : (p : Point) (b : ℕ) (x t y : List ℕ) → length (b ∷ (x ++ (t ++ y))) ≤ p.held → length t ≤ (behind p (b ∷ x)).held
inner_held p b x t y h = omega (arith, h, held_behind p (b ∷ x), length-append x (t ++ y), length-append t y)

end_held : (p : Point) (a t : List ℕ) → length (a ++ t) ≤ p.held → length t ≤ (behind p a).held
end_held p a t h = omega (arith, h, held_behind p a, length-append a t)

pub reads : {p : Point} {d c l : ℕ} {t : List ℕ} {e : Tree} {ks : List Call} → Spells p d c l t e ks → length t ≤ p.held
    → (all pre post : List Call) → all ≡ pre ++ (ks ++ post) → length pre ≡ c → Reads e all ks c
reads {c = c} (number n h) w all pre post is at = constant_reads n all c (number_fits h)
reads {c = c} (called k few h) w all pre post is at =
    call_reads k all c few (subst (λ (v : List Call). slice_get v c ≡ Some k) (sym is) (subst (λ (v : ℕ). slice_get (pre ++ k ∷ post) v ≡ Some k) at (place_of pre k post))) (call_again h w)
reads {p} (paren x t y ax s ay h) w all pre post is at =
    reads s (inner_held p 40 x t (y ++ 41 ∷ []) (subst (λ (v : List ℕ). length v ≤ p.held) h w)) all pre post is at
reads {p} {c = c} {ks = ks} (minus {e = a} x t ax s h) w all pre post is at =
    minus_reads a all ks c (reads s (end_held p (45 ∷ x) t (subst (λ (v : List ℕ). length v ≤ p.held) h w)) all pre post is at)
reads {p} {c = c} {ks = ks} (denied {e = a} x t g ax q s h) w all pre post is at =
    not_reads a all ks c (reads s (end_held p (110 ∷ 111 ∷ 116 ∷ x) t (subst (λ (v : List ℕ). length v ≤ p.held) h w)) all pre post is at)
reads (tighter s) w all pre post is at = reads s w all pre post is at
reads {p} {c = c} (joined {a = a} {b = b} {ks = ks} {js = js} op t x y u level s ax ay apart r h) w all pre post is at =
    let w' = subst (λ (v : List ℕ). length v ≤ p.held) h w in
    let front = t ++ (x ++ (op_text op ++ y)) in
    let again : t ++ (x ++ (op_text op ++ (y ++ u))) ≡ front ++ u = simp append_assoc refl in
    joined_reads op a b all ks js c
    (reads s (omega (arith, w', length-append t (x ++ (op_text op ++ (y ++ u))))) all pre (js ++ post) (is ∙ ap (λ (v : List Call). pre ++ v) (append_assoc ks js post)) at)
    (reads r (end_held p front u (subst (λ (v : List ℕ). length v ≤ p.held) again w')) all (pre ++ ks) post
    (is ∙ ap (λ (v : List Call). pre ++ v) (append_assoc ks js post) ∙ sym (append_assoc pre ks (js ++ post))) (length-append pre ks ∙ ap (λ (v : ℕ). v + length ks) at))

-- what a text says is said by its written form
pub written_again : (text : List ℕ) (e : Tree) (ks : List Call) → IsExpr text e ks → nesting e ≤ 32 → IsExpr (written_of e ks) e ks
written_again text e ks h n =
    to_loosest (level_of e) (reads h (omega arith) ks [] [] (sym (append-nil ks)) refl (beginning (length (written_of e ks))) 32 n (λ g. refl))
