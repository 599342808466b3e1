-- What waits, and an operand behind it, in the words of the grammar.
use Rattle.std.proofs.Common.{◌≡◌, ℕ, suc, zero, ◌+◌, ◌-◌, ◌≤◌, ◌<◌, List, [], ◌∷◌, ◌++◌, length, refl, ap, sym, ◌∙◌, Bool, true, false, arith, nat_le, subst, inl, inr, ◌⊎◌, append_assoc, append-nil, length-append}
use Rattle.zbx_types.specs.Tree.{Tree}
use Rattle.zbx_types.specs.declared.expr.Op.{Op}
use Rattle.zbx_types.specs.declared.expr.Op.TheVariants.{Or, And, Eq, Ne, Lt, Le, Gt, Ge, Add, Sub, Mul, Div}
use Rattle.zbx_types.specs.declared.calls.Call.{Call}
use Rattle.expr_parser.specs.declared.pending.Half.{Half}
use Rattle.expr_parser.specs.declared.pending.Half.TheVariants.{Left, Denied, Negated}
use Rattle.expr_parser.specs.declared.pending.Pending.{Pending}
use Rattle.expr_parser.specs.declared.pending.Pending.TheVariants.{Open, Waits}
use Rattle.expr_parser.specs.Bytes.{is_gap, ends_word, AreBlanks, first_byte, Point, behind, beginning}
use Rattle.expr_parser.specs.Grammar.{op_text, op_level, is_word, Spells, paren, minus, denied, tighter, joined}
use Rattle.expr_parser.specs.Machine.{half_level, applied, floor, reduced, with_op}
use Rattle.expr_parser.proofs.Lists.{behind_append, last_snoc, either_way, le_true, le_false, blank_first, blank_ends, first_kept, first_more}
use Rattle.expr_parser.proofs.Complete.{begins_with}

-- the point behind a front of the text
abbrev pub at : ℕ → List ℕ → Point
at n p = behind (beginning n) p

pub at_append : (n : ℕ) (p t : List ℕ) → behind (at n p) t ≡ at n (p ++ t)
at_append n p t = sym (behind_append (beginning n) p t)

abbrev pub is_wordy : Half → Bool
is_wordy (Left op a) = is_word op
is_wordy Denied = true
is_wordy Negated = false

-- the operand of a word stands apart from it
abbrev pub Apart : Half → ℕ → List ℕ → Type 0
Apart h l u = is_wordy h ≡ true → (is_gap l ≡ true) ⊎ (first_byte u ≡ 40)

abbrev pub Parted : List Pending → ℕ → List ℕ → Type 0
Parted [] l u = Unit {0}
Parted (Open ∷ k) l u = Unit {0}
Parted (Waits h ∷ k) l u = Apart h l u

-- any operand may stand behind this byte
abbrev pub Clear : List Pending → ℕ → Type 0
Clear [] l = Unit {0}
Clear (Open ∷ k) l = Unit {0}
Clear (Waits h ∷ k) l = is_wordy h ≡ true → is_gap l ≡ true

pub clear_parted : (k : List Pending) (l : ℕ) (u : List ℕ) → Clear k l → Parted k l u
clear_parted [] l u h = tt
clear_parted (Open ∷ k) l u h = tt
clear_parted (Waits w ∷ k) l u h = λ e. inl (h e)

pub gap_clear : (k : List Pending) (l : ℕ) → is_gap l ≡ true → Clear k l
gap_clear [] l h = tt
gap_clear (Open ∷ k) l h = tt
gap_clear (Waits w ∷ k) l h = λ e. h

pub open_parted : (k : List Pending) (l : ℕ) (u : List ℕ) → Parted k l (40 ∷ u)
open_parted [] l u = tt
open_parted (Open ∷ k) l u = tt
open_parted (Waits w ∷ k) l u = λ e. inr refl

parted_first : (k : List Pending) (l : ℕ) (u v : List ℕ) → first_byte v ≡ first_byte u → Parted k l u → Parted k l v
parted_first [] l u v e h = tt
parted_first (Open ∷ k) l u v e h = tt
parted_first (Waits w ∷ k) l u v e h = λ i. at_either (h i)
  where
    at_either : (is_gap l ≡ true) ⊎ (first_byte u ≡ 40) → (is_gap l ≡ true) ⊎ (first_byte v ≡ 40)
    at_either (inl g) = inl g
    at_either (inr g) = inr (e ∙ g)

-- with its operand, what waits is on its level
abbrev pub Fills : ℕ → ℕ → Half → List ℕ → List ℕ → List Call → List Call → Type 0
Fills n d h p t c0 ch = (u : List ℕ) (e : Tree) (js : List Call) → Spells (at n (p ++ t)) d (length (c0 ++ ch)) (suc (half_level h)) u e js → Apart h (at n (p ++ t)).last u
    → Spells (at n p) d (length c0) (half_level h) (t ++ u) (applied h e) (ch ++ js)

-- the text and the calls so far lead to what waits; so many parentheses may still be opened
abbrev pub Stack : ℕ → List Pending → ℕ → List ℕ → List Call → Type 0
Stack n [] d p cs = (d ≡ 32) × (p ≡ []) × (cs ≡ [])
Stack n (Open ∷ k) d p cs = (p0 : List ℕ) × (x : List ℕ) × (p ≡ p0 ++ 40 ∷ x) × AreBlanks x × Stack n k (suc d) p0 cs
Stack n (Waits h ∷ k) d p cs = (p0 : List ℕ) × (t : List ℕ) × (c0 : List Call) × (ch : List Call) × (p ≡ p0 ++ t) × (cs ≡ c0 ++ ch) × Stack n k d p0 c0 × (floor k ≤ half_level h)
    × Parted k (at n p0).last t × (0 < first_byte t) × Fills n d h p0 t c0 ch

pub stack_depth : (n : ℕ) (k : List Pending) (d : ℕ) (p : List ℕ) (cs : List Call) → Stack n k d p cs → d ≤ 32
stack_depth n [] d p cs h = let e = h.0 in omega arith
stack_depth n (Open ∷ k) d p cs h = let e = stack_depth n k (suc d) h.0 cs h.4 in omega arith
stack_depth n (Waits w ∷ k) d p cs h = stack_depth n k d h.0 h.2 h.6

pub stack_moved : (n : ℕ) (k : List Pending) (d : ℕ) (p q : List ℕ) (cs : List Call) → p ≡ q → Stack n k d p cs → Stack n k d q cs
stack_moved n k d p q cs e h = subst (λ (v : List ℕ). Stack n k d v cs) e h

-- an operand stands behind what waits
pub record Holds (n d : ℕ) (k : List Pending) (e : Tree) (l : ℕ) (q : List ℕ) (cs : List Call) : Type 0 where
  pub front : List ℕ
  pub text : List ℕ
  pub before : List Call
  pub own : List Call
  pub parts : q ≡ front ++ text
  pub calls : cs ≡ before ++ own
  pub stack : Stack n k d front before
  pub spells : Spells (at n front) d (length before) l text e own
  pub fits : Parted k (at n front).last text

pub holds_moved : (n d : ℕ) (k : List Pending) (e : Tree) (l : ℕ) (q r : List ℕ) (cs : List Call) → q ≡ r → Holds n d k e l q cs → Holds n d k e l r cs
holds_moved n d k e l q r cs i h = subst (λ (v : List ℕ). Holds n d k e l v cs) i h

looser : (g : ℕ) {p : Point} {d c l : ℕ} {t : List ℕ} {e : Tree} {ks : List Call} → Spells p d c (g + l) t e ks → Spells p d c l t e ks
looser zero {p} {d} {c} {l} {t} {e} {ks} s = let z : 0 + l ≡ l = omega arith in subst (λ (v : ℕ). Spells p d c v t e ks) z s
looser (suc g) {p} {d} {c} {l} {t} {e} {ks} s = let z : suc g + l ≡ suc (g + l) = omega arith in looser g (tighter (subst (λ (v : ℕ). Spells p d c v t e ks) z s))

loosened : {p : Point} {d c : ℕ} {t : List ℕ} {e : Tree} {ks : List Call} (l m : ℕ) → m ≤ l → Spells p d c l t e ks → Spells p d c m t e ks
loosened {p} {d} {c} {t} {e} {ks} l m h s = let z : l ≡ (l - m) + m = omega arith in looser (l - m) (subst (λ (v : ℕ). Spells p d c v t e ks) z s)

held_at : (n d : ℕ) (k : List Pending) (e : Tree) (l m : ℕ) (q : List ℕ) (cs : List Call) → m ≤ l → Holds n d k e l q cs → Holds n d k e m q cs
held_at n d k e l m q cs i h = record { front = h.front; text = h.text; before = h.before; own = h.own; parts = h.parts; calls = h.calls; stack = h.stack; spells = loosened l m i h.spells; fits = h.fits }

-- once all that bind as tightly as a level have their operand
pub record Folded (n d m : ℕ) (r : List Pending × Tree) (q : List ℕ) (cs : List Call) : Type 0 where
  pub holds : Holds n d r.0 r.1 m q cs
  pub low : floor r.0 ≤ m

apply : (n d : ℕ) (h : Half) (k : List Pending) (e : Tree) (l : ℕ) (q : List ℕ) (cs : List Call) → suc (half_level h) ≤ l → Holds n d (Waits h ∷ k) e l q cs → Holds n d k (applied h e) (half_level h) q cs
apply n d h k e l q cs i g =
    let s = g.stack in
    let sp : Spells (at n (s.0 ++ s.1)) d (length (s.2 ++ s.3)) (suc (half_level h)) g.text e g.own = subst (λ (v : List Call). Spells (at n (s.0 ++ s.1)) d (length v) (suc (half_level h)) g.text e g.own) s.5 (subst (λ (v : List ℕ). Spells (at n v) d (length g.before) (suc (half_level h)) g.text e g.own) s.4 (loosened l (suc (half_level h)) i g.spells)) in
    let fi : Apart h (at n (s.0 ++ s.1)).last g.text = subst (λ (v : List ℕ). Apart h (at n v).last g.text) s.4 g.fits in
    record {
      front = s.0;
      text = s.1 ++ g.text;
      before = s.2;
      own = s.3 ++ g.own;
      parts = g.parts ∙ ap (λ (v : List ℕ). v ++ g.text) s.4 ∙ append_assoc s.0 s.1 g.text;
      calls = g.calls ∙ ap (λ (v : List Call). v ++ g.own) s.5 ∙ append_assoc s.2 s.3 g.own;
      stack = s.6;
      spells = s.10 g.text e g.own sp fi;
      fits = parted_first k (at n s.0).last s.1 (s.1 ++ g.text) (first_kept s.1 g.text s.9) s.8;
    }

pub fold : (n d : ℕ) (m : ℕ) (k : List Pending) (e : Tree) (l : ℕ) (q : List ℕ) (cs : List Call) → floor k ≤ l → m ≤ l → Holds n d k e l q cs → Folded n d m (reduced m k e) q cs
fold n d m [] e l q cs f i h = record { holds = held_at n d [] e l m q cs i h; low = omega arith }
fold n d m (Open ∷ k) e l q cs f i h = record { holds = held_at n d (Open ∷ k) e l m q cs i h; low = omega arith }
fold n d m (Waits w ∷ k) e l q cs f i h = elim (either_way (nat_le m (half_level w))) [
  | inl g ↦ rw g (fold n d m k (applied w e) (half_level w) q cs h.stack.7 (le_true m (half_level w) g) (apply n d w k e l q cs f h))
  | inr g ↦ rw g (record { holds = held_at n d (Waits w ∷ k) e l m q cs i h; low = le_false m (half_level w) g })
]

-- ---- what comes to wait

pub open_stack : (n d : ℕ) (k : List Pending) (q x : List ℕ) (cs : List Call) → Stack n k (suc d) q cs → AreBlanks x → Stack n (Open ∷ k) d ((q ++ 40 ∷ []) ++ x) cs
open_stack n d k q x cs s a = (q, x, append_assoc q (40 ∷ []) x, a, s)

pub negated_stack : (n d : ℕ) (k : List Pending) (q x : List ℕ) (cs : List Call) → Stack n k d q cs → Clear k (at n q).last → floor k ≤ 7 → AreBlanks x → Stack n (Waits Negated ∷ k) d ((q ++ 45 ∷ []) ++ x) cs
negated_stack n d k q x cs s c f a = (
  q,
  45 ∷ x,
  cs,
  [],
  append_assoc q (45 ∷ []) x,
  sym (append-nil cs),
  s,
  f,
  clear_parted k (at n q).last (45 ∷ x) c,
  omega arith,
  (λ u e js sp i. minus x u a (subst (λ (v : Point). Spells v d (length cs) 8 u e js) (sym (at_append n q (45 ∷ x))) (subst (λ (v : List Call). Spells (at n (q ++ 45 ∷ x)) d (length v) 8 u e js) (append-nil cs) sp)) refl),
)

-- a word's last letter is no gap
word_apart : (n : ℕ) (q : List ℕ) (b : ℕ) (y u : List ℕ) → is_gap b ≡ false → AreBlanks y → (is_gap (at n (q ++ b ∷ y)).last ≡ true) ⊎ (first_byte u ≡ 40) → ends_word (first_byte (y ++ u)) ≡ true
word_apart n q b [] u g a (inl e) = absurd (let f : is_gap b ≡ true = subst (λ (v : ℕ). is_gap v ≡ true) (last_snoc (beginning n) q b) e in cc)
word_apart n q b [] u g a (inr e) = rw e refl
word_apart n q b (c ∷ y) u g a e = blank_ends c (blank_first c y a)

pub denied_stack : (n d : ℕ) (k : List Pending) (q x : List ℕ) (cs : List Call) → Stack n k d q cs → Clear k (at n q).last → floor k ≤ 6 → is_gap (at n q).last ≡ true → AreBlanks x → Stack n (Waits Denied ∷ k) d (q ++ (110 ∷ 111 ∷ 116 ∷ x)) cs
denied_stack n d k q x cs s c f g a = (
  q,
  110 ∷ 111 ∷ 116 ∷ x,
  cs,
  [],
  refl,
  sym (append-nil cs),
  s,
  f,
  clear_parted k (at n q).last (110 ∷ 111 ∷ 116 ∷ x) c,
  omega arith,
  (λ u e js sp i. denied x u g a
      (word_apart n (q ++ 110 ∷ 111 ∷ []) 116 x u refl a (subst (λ (v : List ℕ). (is_gap (at n v).last ≡ true) ⊎ (first_byte u ≡ 40)) (sym (append_assoc q (110 ∷ 111 ∷ []) (116 ∷ x))) (i refl)))
      (subst (λ (v : Point). Spells v d (length cs) 7 u e js) (sym (at_append n q (110 ∷ 111 ∷ 116 ∷ x))) (subst (λ (v : List Call). Spells (at n (q ++ 110 ∷ 111 ∷ 116 ∷ x)) d (length v) 7 u e js) (append-nil cs) sp)) refl),
)

op_word_apart : (n : ℕ) (op : Op) (q y u : List ℕ) → is_word op ≡ true → AreBlanks y → (is_gap (at n (q ++ (op_text op ++ y))).last ≡ true) ⊎ (first_byte u ≡ 40) → ends_word (first_byte (y ++ u)) ≡ true
op_word_apart n Or q y u w a i = word_apart n (q ++ 111 ∷ []) 114 y u refl a (subst (λ (v : List ℕ). (is_gap (at n v).last ≡ true) ⊎ (first_byte u ≡ 40)) (sym (append_assoc q (111 ∷ []) (114 ∷ y))) i)
op_word_apart n And q y u w a i = word_apart n (q ++ 97 ∷ 110 ∷ []) 100 y u refl a (subst (λ (v : List ℕ). (is_gap (at n v).last ≡ true) ⊎ (first_byte u ≡ 40)) (sym (append_assoc q (97 ∷ 110 ∷ []) (100 ∷ y))) i)
op_word_apart n _ q y u w a i = absurd cc

regroup : (t y o z u : List ℕ) → (t ++ (y ++ (o ++ z))) ++ u ≡ t ++ (y ++ (o ++ (z ++ u)))
regroup t y o z u = append_assoc t (y ++ (o ++ z)) u ∙ ap (λ (v : List ℕ). t ++ v) (append_assoc y (o ++ z) u ∙ ap (λ (v : List ℕ). y ++ v) (append_assoc o z u))

-- an operator behind an operand and blanks, with blanks behind it
pub op_stack : (n d : ℕ) (op : Op) (k : List Pending) (e : Tree) (l : ℕ) (w y z : List ℕ) (cs : List Call) → floor k ≤ l → op_level op ≤ l → Holds n d k e l w cs → AreBlanks y → AreBlanks z → (is_word op ≡ true → is_gap (at n (w ++ y)).last ≡ true)
    → Stack n (with_op op e k) d (w ++ (y ++ (op_text op ++ z))) cs
op_stack n d op k e l w y z cs f i h ay az g =
    let r = fold n d (op_level op) k e l w cs f i h in
    let H : Holds n d (reduced (op_level op) k e).0 (reduced (op_level op) k e).1 (op_level op) w cs = r.holds in
    let T : List ℕ = H.text ++ (y ++ (op_text op ++ z)) in
    let first = begins_with H.spells in
    let front_y : H.front ++ (H.text ++ y) ≡ w ++ y = sym (append_assoc H.front H.text y) ∙ ap (λ (v : List ℕ). v ++ y) (sym H.parts) in
    let q_is : w ++ (y ++ (op_text op ++ z)) ≡ H.front ++ (H.text ++ (y ++ (op_text op ++ z))) = ap (λ (v : List ℕ). v ++ (y ++ (op_text op ++ z))) H.parts ∙ append_assoc H.front H.text (y ++ (op_text op ++ z)) in (
      H.front,
      H.text ++ (y ++ (op_text op ++ z)),
      H.before,
      H.own,
      q_is,
      H.calls,
      H.stack,
      r.low,
      parted_first (reduced (op_level op) k e).0 (at n H.front).last H.text (H.text ++ (y ++ (op_text op ++ z))) (first_kept H.text (y ++ (op_text op ++ z)) first.0) H.fits,
      first_more H.text (y ++ (op_text op ++ z)) first.0,
      (λ u b js sp apart. joined op H.text y z u refl H.spells ay az
          (λ word. (
            subst (λ (v : Point). is_gap v.last ≡ true) (sym (at_append n H.front (H.text ++ y) ∙ ap (λ (v : List ℕ). at n v) front_y)) (g word),
            op_word_apart n op (w ++ y) z u word az (subst (λ (v : List ℕ). (is_gap (at n v).last ≡ true) ⊎ (first_byte u ≡ 40)) (sym q_is ∙ sym (append_assoc w y (op_text op ++ z))) (apart word)),
          ))
          (subst (λ (v : ℕ). Spells (behind (at n H.front) (H.text ++ (y ++ (op_text op ++ z)))) d v (suc (op_level op)) u b js) (length-append H.before H.own)
          (subst (λ (v : Point). Spells v d (length (H.before ++ H.own)) (suc (op_level op)) u b js) (sym (at_append n H.front (H.text ++ (y ++ (op_text op ++ z))))) sp))
          (regroup H.text y (op_text op) z u)),
    )

-- `)` behind an operand and blanks
pub close_holds : (n d : ℕ) (k : List Pending) (e : Tree) (w y : List ℕ) (cs : List Call) → Holds n d (Open ∷ k) e 0 w cs → AreBlanks y → Holds n (suc d) k e 8 (w ++ (y ++ 41 ∷ [])) cs
close_holds n d k e w y cs h a =
    let s = h.stack in
    let q_is : w ++ (y ++ 41 ∷ []) ≡ s.0 ++ 40 ∷ (s.1 ++ (h.text ++ (y ++ 41 ∷ []))) = ap (λ (v : List ℕ). v ++ (y ++ 41 ∷ [])) (h.parts ∙ ap (λ (v : List ℕ). v ++ h.text) s.2) ∙ append_assoc (s.0 ++ 40 ∷ s.1) h.text (y ++ 41 ∷ []) ∙ append_assoc s.0 (40 ∷ s.1) (h.text ++ (y ++ 41 ∷ [])) in
    record {
      front = s.0;
      text = 40 ∷ (s.1 ++ (h.text ++ (y ++ 41 ∷ [])));
      before = h.before;
      own = h.own;
      parts = q_is;
      calls = h.calls;
      stack = s.4;
      spells = paren s.1 h.text y s.3 (subst (λ (v : Point). Spells v d (length h.before) 0 h.text e h.own) (sym (at_append n s.0 (40 ∷ s.1))) (subst (λ (v : List ℕ). Spells (at n v) d (length h.before) 0 h.text e h.own) s.2 h.spells)) a refl;
      fits = open_parted k (at n s.0).last (s.1 ++ (h.text ++ (y ++ 41 ∷ [])));
    }

-- a token as an operand
pub token_holds : (n d : ℕ) (k : List Pending) (e : Tree) (p t : List ℕ) (cs own : List Call) → Stack n k d p cs → Clear k (at n p).last → Spells (at n p) d (length cs) 8 t e own → Holds n d k e 8 (p ++ t) (cs ++ own)
token_holds n d k e p t cs own s c sp = record { front = p; text = t; before = cs; own = own; parts = refl; calls = refl; stack = s; spells = sp; fits = clear_parted k (at n p).last t c }

pub floor_le : (k : List Pending) → floor k ≤ 8
floor_le [] = omega arith
floor_le (Open ∷ k) = omega arith
floor_le (Waits (Left op a) ∷ k) = let h = level_le op in omega arith
  where
    level_le : (op : Op) → op_level op ≤ 5
    level_le Or = omega arith
    level_le And = omega arith
    level_le Eq = omega arith
    level_le Ne = omega arith
    level_le Lt = omega arith
    level_le Le = omega arith
    level_le Gt = omega arith
    level_le Ge = omega arith
    level_le Add = omega arith
    level_le Sub = omega arith
    level_le Mul = omega arith
    level_le Div = omega arith
floor_le (Waits Denied ∷ k) = omega arith
floor_le (Waits Negated ∷ k) = omega arith
