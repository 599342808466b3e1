-- Which text is which expression, by the cases of the grammar.
use Rattle.std.specs.Prelude.{◌≡◌, ◌<◌, ℕ, suc, ◌+◌, List, [], ◌∷◌, ◌++◌, Bool, true, false, length, pos, if◌then◌else◌}
use Rattle.std.specs.Prelude.{codes}
use Rattle.zbx_types.specs.Tree.{Tree, constant, call, negative, negation, binary}
use Rattle.zbx_types.specs.declared.expr.Op.{Op}
use Rattle.zbx_types.specs.declared.expr.Op.TheVariants.{Or, And, Eq, Ne, Lt, Le, Gt, Ge, Add, Sub, Mul, Div}
use Rattle.zbx_types.specs.declared.calls.Call.{Call}
use Rattle.expr_parser.specs.Bytes.{is_gap, ends_word, first_byte, AreBlanks, Point, behind, beginning}
use Rattle.expr_parser.specs.Numbers.{IsNumber}
use Rattle.zbx_types.specs.Operators.{is_dated}
use Rattle.expr_parser.specs.Calls.{IsCall, greatest_number}

-- how an operator is written
abbrev pub op_text : Op → List ℕ
op_text Or = codes "or"
op_text And = codes "and"
op_text Eq = codes "="
op_text Ne = codes "<>"
op_text Lt = codes "<"
op_text Le = codes "<="
op_text Gt = codes ">"
op_text Ge = codes ">="
op_text Add = codes "+"
op_text Sub = codes "-"
op_text Mul = codes "*"
op_text Div = codes "/"

-- The levels, the loosest first. 6 is `not`, 7 the sign, and 8 numbers, calls and parentheses.
abbrev pub op_level : Op → ℕ
op_level Or = 0
op_level And = 1
op_level Eq = 2
op_level Ne = 2
op_level Lt = 3
op_level Le = 3
op_level Gt = 3
op_level Ge = 3
op_level Add = 4
op_level Sub = 4
op_level Mul = 5
op_level Div = 5

-- the operator is a word
abbrev pub is_word : Op → Bool
is_word Or = true
is_word And = true
is_word Eq = false
is_word Ne = false
is_word Lt = false
is_word Le = false
is_word Gt = false
is_word Ge = false
is_word Add = false
is_word Sub = false
is_word Mul = false
is_word Div = false

-- a word stands between blanks or parentheses
abbrev pub StandsApart : Op → ℕ → ℕ → Type 0
StandsApart op before after = is_word op ≡ true → (is_gap before ≡ true) × (ends_word after ≡ true)

-- At a point, with so many parentheses still to be opened, behind so many calls, the text is on this level and is this
-- tree, with these calls.
pub data Spells : Point → ℕ → ℕ → ℕ → List ℕ → Tree → List Call → Type 0 where
  number : {p : Point} {d c : ℕ} {text : List ℕ} (n : ℕ) → IsNumber greatest_number text n
      → Spells p d c 8 text (constant (pos n)) []
  called : {p : Point} {d c : ℕ} {text : List ℕ} (k : Call) → c < 32 → IsCall p text k
      → Spells p d c 8 text (call c) (k ∷ [])
  paren : {p : Point} {d c : ℕ} {text : List ℕ} {e : Tree} {ks : List Call} (x t y : List ℕ) → AreBlanks x
      → Spells (behind p (40 ∷ x)) d c 0 t e ks → AreBlanks y
      → text ≡ 40 ∷ (x ++ (t ++ (y ++ 41 ∷ []))) → Spells p (suc d) c 8 text e ks
  minus : {p : Point} {d c : ℕ} {text : List ℕ} {e : Tree} {ks : List Call} (x t : List ℕ) → AreBlanks x
      → Spells (behind p (45 ∷ x)) d c 8 t e ks
      → text ≡ 45 ∷ (x ++ t) → Spells p d c 7 text (negative e) ks
  denied : {p : Point} {d c : ℕ} {text : List ℕ} {e : Tree} {ks : List Call} (x t : List ℕ) → is_gap p.last ≡ true
      → AreBlanks x → ends_word (first_byte (x ++ t)) ≡ true
      → Spells (behind p (codes "not" ++ x)) d c 7 t e ks → text ≡ codes "not" ++ (x ++ t)
      → Spells p d c 6 text (negation e) ks
  tighter : {p : Point} {d c l : ℕ} {text : List ℕ} {e : Tree} {ks : List Call} → Spells p d c (suc l) text e ks
      → Spells p d c l text e ks
  joined : {p : Point} {d c l : ℕ} {text : List ℕ} {a b : Tree} {ks js : List Call} (op : Op) (t x y u : List ℕ)
      → l ≡ op_level op → Spells p d c l t a ks
      → AreBlanks x → AreBlanks y → StandsApart op (behind p (t ++ x)).last (first_byte (y ++ u))
      → Spells (behind p (t ++ (x ++ (op_text op ++ y)))) d (c + length ks) (suc l) u b js
      → text ≡ t ++ (x ++ (op_text op ++ (y ++ u))) → Spells p d c l text (binary op a b) (ks ++ js)

-- some call looks at an item
abbrev pub looks_at_item : List Call → Bool
looks_at_item [] = false
looks_at_item (k ∷ ks) = if is_dated k.fun then looks_at_item ks else true

-- the text is this expression with these calls, but for its length
abbrev pub IsExpr : List ℕ → Tree → List Call → Type 0
IsExpr text e ks = Spells (beginning (length text)) 32 0 0 text e ks

-- the text is an expression, if so many of its bytes are held to the limit of keys
abbrev pub IsText : ℕ → List ℕ → Type 0
IsText held text = (e : Tree) × (ks : List Call) × Spells (beginning held) 32 0 0 text e ks
