-- What the grammar says is an expression, the machine takes, and makes the same tree and calls of it.
use Rattle.std.proofs.Common.{◌≡◌, ℕ, suc, ◌+◌, ◌≤◌, ◌<◌, List, [], ◌∷◌, ◌++◌, length, refl, ap, sym, ◌∙◌, Option, Some, None, Bool, true, false, arith, nat_le, ◌==◌, subst, inl, inr, if◌then◌else◌, append_assoc, length-append}
use Rattle.std.proofs.lemmas.Bool.Decides.{nat_tests}
use Rattle.zbx_types.specs.Tree.{Tree, call, negative, negation, binary}
use Rattle.zbx_types.specs.declared.expr.Op.{Op}
use Rattle.zbx_types.specs.declared.expr.Op.TheVariants.{Or, And, Eq, Ne, Lt, Le, Gt, Ge, Add, Sub, Mul, Div}
use Rattle.zbx_types.specs.declared.calls.Call.{Call}
use Rattle.zbx_types.specs.declared.calls.Fun.{Fun}
use Rattle.expr_parser.specs.declared.figures.Figures.{Figures}
use Rattle.expr_parser.specs.declared.pending.Half.TheVariants.{Left, Denied, Negated}
use Rattle.expr_parser.specs.declared.pending.Pending.{Pending}
use Rattle.expr_parser.specs.declared.pending.Pending.TheVariants.{Open, Waits}
use Rattle.expr_parser.specs.declared.pending.Rest.TheVariants.{Nd, D, R, Nothing}
use Rattle.expr_parser.specs.Bytes.{is_blank, is_gap, ends_word, AreBlanks, first_byte, Point, one_less, behind, beginning}
use Rattle.expr_parser.specs.Functions.{name_of}
use Rattle.expr_parser.specs.Calls.{IsCall, dated, of_item, greatest_number}
use Rattle.expr_parser.specs.Figures.{is_figure}
use Rattle.expr_parser.specs.Grammar.{op_text, op_level, StandsApart, Spells, number, called, paren, minus, denied, tighter, joined, IsExpr}
use Rattle.expr_parser.specs.Machine.{half_level, floor, reduced, Mode, Begin, Operand, Word, Done, Less, Greater, Joint, State, state, opened, has_room, not_word, function_of, operand, with_op, pushed, closed, move, is_zero, after, start, held, ends_by, ends_at}
use Rattle.expr_parser.proofs.Lists.{behind_append, behind_one, le_test, lt_test, some_is, blank_first, blank_rest, blank_or_open, IsFirst, first_kept, digit_first}
use Rattle.expr_parser.proofs.NumberPaths.{Path, here, there, NumberRun, number_path}
use Rattle.expr_parser.proofs.Words.{named, not_begins, are_letters, letters_first}
use Rattle.expr_parser.proofs.Runs.{two_runs, stepped, onward, onward_behind, nothing_run, behind_step, blanks_held, blanks_operand, On, Claim, do_number, room}
use Rattle.expr_parser.proofs.CallRuns.{call_run, call_last}

-- ---- what a text begins with, and ends with

name_first : (f : Fun) (r : List ℕ) → IsFirst (first_byte (name_of f ++ r))
name_first f r = let n = named f in let l = letters_first n.first n.rest (subst (λ (v : List ℕ). are_letters v ≡ true) n.is n.letters) in rw n.is (letter_is n.first l.0)
  where
    letter_is : (b : ℕ) → 96 < b → IsFirst b
    letter_is b h = (omega arith, grind (arith, nat_tests), grind (arith, nat_tests), grind (arith, nat_tests))

call_first : {p : Point} {t : List ℕ} {d : Call} → IsCall p t d → IsFirst (first_byte t)
call_first (dated f h e) = rw e (name_first f (40 ∷ 41 ∷ []))
call_first (of_item f h ks r i a b c l w e) = rw e (name_first f (40 ∷ 47 ∷ (h ++ 47 ∷ (ks ++ (r ++ 41 ∷ [])))))

pub begins_with : {p : Point} {d c l : ℕ} {t : List ℕ} {e : Tree} {ks : List Call} → Spells p d c l t e ks → IsFirst (first_byte t)
begins_with (number n h) = let r = number_path h in rw r.is (digit_first r.first r.digit)
begins_with (called k h g) = call_first g
begins_with (paren x t y a s b e) = rw e (omega arith, refl, refl, refl)
begins_with (minus x t a s e) = rw e (omega arith, refl, refl, refl)
begins_with (denied x t g a n s e) = rw e (omega arith, refl, refl, refl)
begins_with (tighter s) = begins_with s
begins_with (joined op t x y u h s a b w z e) = let f = begins_with s in rw (e, first_kept t (x ++ (op_text op ++ (y ++ u))) f.0) f

last_blank : (b : ℕ) → is_figure b ≡ true → is_blank b ≡ false
last_blank b h = grind (arith, nat_tests)

path_last : {f g : Figures} {bs : List ℕ} → Path greatest_number f bs g → (q : Point) → is_blank q.last ≡ false → is_blank (behind q bs).last ≡ false
unfolding behind
path_last (here {f}) q h = h
path_last (there b i e s) q h = path_last s (onward q b) (last_blank b i)

number_last : (t : List ℕ) (n : ℕ) → NumberRun greatest_number t n → (q : Point) → is_blank (behind q t).last ≡ false
number_last t n r q = rw (r.is, onward_behind q r.first r.more) (path_last r.path (onward q r.first) (last_blank r.first (rw r.digit refl)))

behind_two : (q : Point) (a b : List ℕ) → is_blank (behind (behind q a) b).last ≡ false → is_blank (behind q (a ++ b)).last ≡ false
behind_two q a b h = rw (behind_append q a b) h

ends_closed : (q : Point) (x t y : List ℕ) → is_blank (behind q (40 ∷ (x ++ (t ++ (y ++ 41 ∷ []))))).last ≡ false
ends_closed q x t y = behind_two q (40 ∷ []) (x ++ (t ++ (y ++ 41 ∷ []))) (behind_two (behind q (40 ∷ [])) x (t ++ (y ++ 41 ∷ [])) (behind_two (behind (behind q (40 ∷ [])) x) t (y ++ 41 ∷ []) (behind_two (behind (behind (behind q (40 ∷ [])) x) t) y (41 ∷ []) (rw (behind_one (behind (behind (behind (behind q (40 ∷ [])) x) t) y) 41) refl))))

pub ends_with : {p : Point} {d c l : ℕ} {t : List ℕ} {e : Tree} {ks : List Call} → Spells p d c l t e ks → (q : Point) → is_blank (behind q t).last ≡ false
ends_with (number {p} {d} {c} {text = t} n h) q = number_last t n (number_path h) q
ends_with (called k h g) q = rw (call_last g q) refl
ends_with (paren x t y a s b e) q = rw e (ends_closed q x t y)
ends_with (minus x t a s e) q = rw e (behind_two q (45 ∷ x) t (ends_with s (behind q (45 ∷ x))))
ends_with (denied x t g a n s e) q = rw e (behind_two q (110 ∷ 111 ∷ 116 ∷ x) t (ends_with s (behind q (110 ∷ 111 ∷ 116 ∷ x))))
ends_with (tighter s) q = ends_with s q
ends_with (joined op t x y u h s a b w z e) q = rw e (behind_two q t (x ++ (op_text op ++ (y ++ u))) (behind_two (behind q t) x (op_text op ++ (y ++ u)) (behind_two (behind (behind q t) x) (op_text op) (y ++ u) (behind_two (behind (behind (behind q t) x) (op_text op)) y u (ends_with z (behind (behind (behind (behind q t) x) (op_text op)) y))))))

-- ---- what waits

pub still : (m : ℕ) (k : List Pending) (e : Tree) → floor k ≤ m → reduced m k e ≡ (k, e)
still m [] e h = refl
still m (Open ∷ k) e h = refl
still m (Waits w ∷ k) e h = rw (less m (half_level w) h) refl
  where
    less : (a b : ℕ) → suc b ≤ a → nat_le a b ≡ false
    less a b h = grind (arith, nat_tests)

-- a state from which an operand goes on
pub record Ready (r : Option State) (l o : ℕ) (k : List Pending) (cs : List Call) (t : List ℕ) : Type 0 where
  pub mode : Mode
  pub stack : List Pending
  pub is : r ≡ Some (state mode l o stack cs)
  pub on : On mode l o stack k cs t

on_operand : (l o : ℕ) (k : List Pending) (cs : List Call) (t : List ℕ) → IsFirst (first_byte t) → On Operand l o k k cs t
on_operand l o k cs t h free = rw h.1 refl

ready_blanks : (y : List ℕ) (p : Point) (o : ℕ) (k : List Pending) (cs : List Call) (u : List ℕ) → AreBlanks y → IsFirst (first_byte u) → Ready (after p.held (Some (state Operand p.last o k cs)) y) (behind p y).last o k cs u
ready_blanks y p o k cs u a h = record { mode = Operand; stack = k; is = blanks_operand y p o k cs a; on = on_operand (behind p y).last o k cs u h }

-- behind a word
ready_word : (y : List ℕ) (p : Point) (m : Mode) (o : ℕ) (k0 k : List Pending) (cs : List Call) (u : List ℕ) → ((free : Bool) (l b : ℕ) → is_blank b ≡ true → move free m l o k0 cs b ≡ Some (state Operand b o k cs))
    → ((free : Bool) (l : ℕ) → move free m l o k0 cs 40 ≡ opened o k cs) → AreBlanks y → IsFirst (first_byte u) → ends_word (first_byte (y ++ u)) ≡ true → Ready (after p.held (Some (state m p.last o k0 cs)) y) (behind p y).last o k cs u
unfolding behind
ready_word [] p m o k0 k cs u g f a h e = record {
  mode = m;
  stack = k0;
  is = nothing_run p.held (Some (state m p.last o k0 cs));
  on = λ free. let b : first_byte u ≡ 40 = is_40 (first_byte u) h e in rw b (f free p.last);
}
  where
    is_40 : (b : ℕ) → IsFirst b → ends_word b ≡ true → b ≡ 40
    is_40 b h e = elim (blank_or_open b e) [ inl z ↦ absurd (let n = h.1 in cc) | inr z ↦ z ]
ready_word (b ∷ y) p m o k0 k cs u g f a h e =
    let r = ready_blanks y (onward p b) o k cs u (blank_rest b y a) h in
    record { mode = r.mode; stack = r.stack; is = stepped p m o k0 cs b y (Some (state Operand b o k cs)) (g (is_zero p.held) p.last b (blank_first b y a)) ∙ r.is; on = r.on }

blank_not : (b : ℕ) → is_blank b ≡ true → ((b == 61) ≡ false) × ((b == 62) ≡ false)
blank_not b h = (grind (arith, nat_tests), grind (arith, nat_tests))

ready_less : (y : List ℕ) (p : Point) (x : Tree) (o : ℕ) (k : List Pending) (cs : List Call) (u : List ℕ) → AreBlanks y → IsFirst (first_byte u) → Ready (after p.held (Some (state (Less x) p.last o k cs)) y) (behind p y).last o (with_op Lt x k) cs u
unfolding behind
ready_less [] p x o k cs u a h = record { mode = Less x; stack = k; is = nothing_run p.held (Some (state (Less x) p.last o k cs)); on = λ free. rw (h.2, h.3, h.1) refl }
ready_less (b ∷ y) p x o k cs u a h =
    let r = ready_blanks y (onward p b) o (with_op Lt x k) cs u (blank_rest b y a) h in
    let n = blank_not b (blank_first b y a) in
    record { mode = r.mode; stack = r.stack; is = stepped p (Less x) o k cs b y (Some (state Operand b o (with_op Lt x k) cs)) (rw (n.0, n.1, blank_first b y a) refl) ∙ r.is; on = r.on }

ready_greater : (y : List ℕ) (p : Point) (x : Tree) (o : ℕ) (k : List Pending) (cs : List Call) (u : List ℕ) → AreBlanks y → IsFirst (first_byte u) → Ready (after p.held (Some (state (Greater x) p.last o k cs)) y) (behind p y).last o (with_op Gt x k) cs u
unfolding behind
ready_greater [] p x o k cs u a h = record { mode = Greater x; stack = k; is = nothing_run p.held (Some (state (Greater x) p.last o k cs)); on = λ free. rw (h.2, h.1) refl }
ready_greater (b ∷ y) p x o k cs u a h =
    let r = ready_blanks y (onward p b) o (with_op Gt x k) cs u (blank_rest b y a) h in
    let n = blank_not b (blank_first b y a) in
    record { mode = r.mode; stack = r.stack; is = stepped p (Greater x) o k cs b y (Some (state Operand b o (with_op Gt x k) cs)) (rw (n.0, blank_first b y a) refl) ∙ r.is; on = r.on }

-- one byte, then a state from which an operand goes on
ready_step : (p : Point) (m m' : Mode) (o : ℕ) (k k' k'' : List Pending) (cs : List Call) (b : ℕ) (y u : List ℕ) → move (is_zero p.held) m p.last o k cs b ≡ Some (state m' b o k' cs)
    → Ready (after (onward p b).held (Some (state m' (onward p b).last o k' cs)) y) (behind (onward p b) y).last o k'' cs u → Ready (after p.held (Some (state m p.last o k cs)) (b ∷ y)) (behind p (b ∷ y)).last o k'' cs u
ready_step p m m' o k k' k'' cs b y u e r = record {
  mode = r.mode;
  stack = r.stack;
  is = stepped p m o k cs b y (Some (state m' b o k' cs)) e ∙ r.is ∙ ap (λ (v : Point). Some (state r.mode v.last o r.stack cs)) (sym (onward_behind p b y));
  on = subst (λ (v : Point). On r.mode v.last o r.stack k'' cs u) (sym (onward_behind p b y)) r.on;
}

-- behind an operator and blanks
op_ready : (op : Op) (y : List ℕ) (p : Point) (m : Mode) (x : Tree) (o : ℕ) (k : List Pending) (cs : List Call) (u : List ℕ) → held m ≡ Some x → AreBlanks y → IsFirst (first_byte u) → StandsApart op p.last (first_byte (y ++ u))
    → Ready (after p.held (Some (state m p.last o k cs)) (op_text op ++ y)) (behind p (op_text op ++ y)).last o (with_op op x k) cs u
op_ready Add y p m x o k cs u e a h w = ready_step p m Operand o k (with_op Add x k) (with_op Add x k) cs 43 y u (behind_step (is_zero p.held) m p.last o k cs 43 x e refl) (ready_blanks y (onward p 43) o (with_op Add x k) cs u a h)
op_ready Sub y p m x o k cs u e a h w = ready_step p m Operand o k (with_op Sub x k) (with_op Sub x k) cs 45 y u (behind_step (is_zero p.held) m p.last o k cs 45 x e refl) (ready_blanks y (onward p 45) o (with_op Sub x k) cs u a h)
op_ready Mul y p m x o k cs u e a h w = ready_step p m Operand o k (with_op Mul x k) (with_op Mul x k) cs 42 y u (behind_step (is_zero p.held) m p.last o k cs 42 x e refl) (ready_blanks y (onward p 42) o (with_op Mul x k) cs u a h)
op_ready Div y p m x o k cs u e a h w = ready_step p m Operand o k (with_op Div x k) (with_op Div x k) cs 47 y u (behind_step (is_zero p.held) m p.last o k cs 47 x e refl) (ready_blanks y (onward p 47) o (with_op Div x k) cs u a h)
op_ready Eq y p m x o k cs u e a h w = ready_step p m Operand o k (with_op Eq x k) (with_op Eq x k) cs 61 y u (behind_step (is_zero p.held) m p.last o k cs 61 x e refl) (ready_blanks y (onward p 61) o (with_op Eq x k) cs u a h)
op_ready Ne y p m x o k cs u e a h w = ready_step p m (Less x) o k k (with_op Ne x k) cs 60 (62 ∷ y) u (behind_step (is_zero p.held) m p.last o k cs 60 x e refl)
    (ready_step (onward p 60) (Less x) Operand o k (with_op Ne x k) (with_op Ne x k) cs 62 y u refl (ready_blanks y (onward (onward p 60) 62) o (with_op Ne x k) cs u a h))
op_ready Le y p m x o k cs u e a h w = ready_step p m (Less x) o k k (with_op Le x k) cs 60 (61 ∷ y) u (behind_step (is_zero p.held) m p.last o k cs 60 x e refl)
    (ready_step (onward p 60) (Less x) Operand o k (with_op Le x k) (with_op Le x k) cs 61 y u refl (ready_blanks y (onward (onward p 60) 61) o (with_op Le x k) cs u a h))
op_ready Ge y p m x o k cs u e a h w = ready_step p m (Greater x) o k k (with_op Ge x k) cs 62 (61 ∷ y) u (behind_step (is_zero p.held) m p.last o k cs 62 x e refl)
    (ready_step (onward p 62) (Greater x) Operand o k (with_op Ge x k) (with_op Ge x k) cs 61 y u refl (ready_blanks y (onward (onward p 62) 61) o (with_op Ge x k) cs u a h))
op_ready Lt y p m x o k cs u e a h w = ready_step p m (Less x) o k k (with_op Lt x k) cs 60 y u (behind_step (is_zero p.held) m p.last o k cs 60 x e refl) (ready_less y (onward p 60) x o k cs u a h)
op_ready Gt y p m x o k cs u e a h w = ready_step p m (Greater x) o k k (with_op Gt x k) cs 62 y u (behind_step (is_zero p.held) m p.last o k cs 62 x e refl) (ready_greater y (onward p 62) x o k cs u a h)
op_ready Or y p m x o k cs u e a h w = let g = w refl in
    ready_step p m (Joint Or R x) o k k (with_op Or x k) cs 111 (114 ∷ y) u (behind_step (is_zero p.held) m p.last o k cs 111 x e refl ∙ rw g.0 refl)
    (ready_step (onward p 111) (Joint Or R x) (Joint Or Nothing x) o k k (with_op Or x k) cs 114 y u refl
    (ready_word y (onward (onward p 111) 114) (Joint Or Nothing x) o k (with_op Or x k) cs u (λ free l b i. rw i refl) (λ free l. refl) a h g.1))
op_ready And y p m x o k cs u e a h w = let g = w refl in
    ready_step p m (Joint And Nd x) o k k (with_op And x k) cs 97 (110 ∷ 100 ∷ y) u (behind_step (is_zero p.held) m p.last o k cs 97 x e refl ∙ rw g.0 refl)
    (ready_step (onward p 97) (Joint And Nd x) (Joint And D x) o k k (with_op And x k) cs 110 (100 ∷ y) u refl
    (ready_step (onward (onward p 97) 110) (Joint And D x) (Joint And Nothing x) o k k (with_op And x k) cs 100 y u refl
    (ready_word y (onward (onward (onward p 97) 110) 100) (Joint And Nothing x) o k (with_op And x k) cs u (λ free l b i. rw i refl) (λ free l. refl) a h g.1)))

-- ---- the claims

do_call : (p : Point) (d c : ℕ) (t : List ℕ) (a : Call) → c < 32 → IsCall p t a → Claim p d c 8 t (call c) (a ∷ [])
do_call p d c t a h g m o k0 k cs deep len low on = record {
  mode = Done (call (length cs));
  stack = k;
  tree = call (length cs);
  is = call_run g m o k0 k cs (room cs c len h) on ∙ ap (λ (v : ℕ). Some (state (Done (call (length cs))) v o k (cs ++ a ∷ []))) (sym (call_last g p));
  holds = refl;
  folds = λ q i. ap (λ (v : ℕ). reduced q k (call v)) len;
}

closes : (x : Tree) (o : ℕ) (k0 k : List Pending) (cs : List Call) (e : Tree) → reduced 0 k0 x ≡ (Open ∷ k, e) → closed x (suc o) k0 cs ≡ Some (state (Done e) 41 o k cs)
closes x o k0 k cs e h = rw h refl

do_paren : (p : Point) (d c : ℕ) (e : Tree) (ks : List Call) (x t y : List ℕ) → AreBlanks x → IsFirst (first_byte t) → Claim (behind p (40 ∷ x)) d c 0 t e ks → AreBlanks y → Claim p (suc d) c 8 (40 ∷ (x ++ (t ++ (y ++ 41 ∷ [])))) e ks
do_paren p d c e ks x t y ax f g ay m o k0 k cs deep len low on =
    let p1 : Point = onward p 40 in
    let e2 : behind p (40 ∷ x) ≡ behind (onward p 40) x = onward_behind p 40 x in
    let g' : Claim (behind (onward p 40) x) d c 0 t e ks = subst (λ (v : Point). Claim v d c 0 t e ks) e2 g in
    let q = g' Operand (suc o) (Open ∷ k) (Open ∷ k) cs (omega arith) len (omega arith) (on_operand (behind (onward p 40) x).last (suc o) (Open ∷ k) cs t f) in
    let p3 : Point = behind (behind (onward p 40) x) t in
    let r = blanks_held y (behind (behind (onward p 40) x) t) q.mode (suc o) q.stack (cs ++ ks) q.tree ay q.holds in
    let p4 : Point = behind (behind (behind (onward p 40) x) t) y in
    let last : (behind p (40 ∷ (x ++ (t ++ (y ++ 41 ∷ []))))).last ≡ 41 = ap (λ (v : Point). v.last) (onward_behind p 40 (x ++ (t ++ (y ++ 41 ∷ []))) ∙ behind_append (onward p 40) x (t ++ (y ++ 41 ∷ [])) ∙ behind_append (behind (onward p 40) x) t (y ++ 41 ∷ []) ∙ behind_append (behind (behind (onward p 40) x) t) y (41 ∷ []) ∙ behind_one (behind (behind (behind (onward p 40) x) t) y) 41) in
    record {
      mode = Done e;
      stack = k;
      tree = e;
      is = stepped p m o k0 cs 40 (x ++ (t ++ (y ++ 41 ∷ []))) (Some (state Operand 40 (suc o) (Open ∷ k) cs)) (on (is_zero p.held) ∙ rw (lt_test o 32 (omega arith)) refl)
          ∙ two_runs (onward p 40) (Some (state Operand 40 (suc o) (Open ∷ k) cs)) (Some (state Operand (behind (onward p 40) x).last (suc o) (Open ∷ k) cs)) x (t ++ (y ++ 41 ∷ [])) (blanks_operand x (onward p 40) (suc o) (Open ∷ k) cs ax)
          ∙ two_runs (behind (onward p 40) x) (Some (state Operand (behind (onward p 40) x).last (suc o) (Open ∷ k) cs)) (Some (state q.mode (behind (behind (onward p 40) x) t).last (suc o) q.stack (cs ++ ks))) t (y ++ 41 ∷ []) q.is
          ∙ two_runs (behind (behind (onward p 40) x) t) (Some (state q.mode (behind (behind (onward p 40) x) t).last (suc o) q.stack (cs ++ ks))) (Some (state r.0 (behind (behind (behind (onward p 40) x) t) y).last (suc o) q.stack (cs ++ ks))) y (41 ∷ []) r.1
          ∙ stepped (behind (behind (behind (onward p 40) x) t) y) r.0 (suc o) q.stack (cs ++ ks) 41 [] (Some (state (Done e) 41 o k (cs ++ ks))) (behind_step (is_zero (behind (behind (behind (onward p 40) x) t) y).held) r.0 (behind (behind (behind (onward p 40) x) t) y).last (suc o) q.stack (cs ++ ks) 41 q.tree r.2 refl ∙ closes q.tree o q.stack k (cs ++ ks) e (q.folds 0 (omega arith)))
          ∙ nothing_run (one_less (behind (behind (behind (onward p 40) x) t) y).held) (Some (state (Done e) 41 o k (cs ++ ks)))
          ∙ ap (λ (v : ℕ). Some (state (Done e) v o k (cs ++ ks))) (sym last);
      holds = refl;
      folds = λ i j. refl;
    }

do_minus : (p : Point) (d c : ℕ) (e : Tree) (ks : List Call) (x t : List ℕ) → AreBlanks x → IsFirst (first_byte t) → Claim (behind p (45 ∷ x)) d c 8 t e ks → Claim p d c 7 (45 ∷ (x ++ t)) (negative e) ks
do_minus p d c e ks x t ax f g m o k0 k cs deep len low on =
    let e2 : behind p (45 ∷ x) ≡ behind (onward p 45) x = onward_behind p 45 x in
    let g' : Claim (behind (onward p 45) x) d c 8 t e ks = subst (λ (v : Point). Claim v d c 8 t e ks) e2 g in
    let q = g' Operand o (Waits Negated ∷ k) (Waits Negated ∷ k) cs deep len (omega arith) (on_operand (behind (onward p 45) x).last o (Waits Negated ∷ k) cs t f) in
    record {
      mode = q.mode;
      stack = q.stack;
      tree = q.tree;
      is = stepped p m o k0 cs 45 (x ++ t) (Some (state Operand 45 o (Waits Negated ∷ k) cs)) (on (is_zero p.held) ∙ rw (le_test (floor k) 7 low) refl)
          ∙ two_runs (onward p 45) (Some (state Operand 45 o (Waits Negated ∷ k) cs)) (Some (state Operand (behind (onward p 45) x).last o (Waits Negated ∷ k) cs)) x t (blanks_operand x (onward p 45) o (Waits Negated ∷ k) cs ax)
          ∙ q.is
          ∙ ap (λ (v : Point). Some (state q.mode v.last o q.stack (cs ++ ks))) (sym (onward_behind p 45 (x ++ t) ∙ behind_append (onward p 45) x t));
      holds = q.holds;
      folds = λ i j. q.folds i (omega arith) ∙ rw (le_test i 7 j) refl;
    }

no_function : (c : Bool) → (if c then function_of not_word else None) ≡ None
no_function true = refl
no_function false = refl

not_open : (free : Bool) (l o : ℕ) (k : List Pending) (cs : List Call) → move free (Word true not_word) l o k cs 40 ≡ opened o (Waits Denied ∷ k) cs
not_open free l o k cs = rw (no_function (has_room cs)) refl

do_denied : (p : Point) (d c : ℕ) (e : Tree) (ks : List Call) (x t : List ℕ) → is_gap p.last ≡ true → AreBlanks x → ends_word (first_byte (x ++ t)) ≡ true → IsFirst (first_byte t) → Claim (behind p (110 ∷ 111 ∷ 116 ∷ x)) d c 7 t e ks
    → Claim p d c 6 (110 ∷ 111 ∷ 116 ∷ (x ++ t)) (negation e) ks
do_denied p d c e ks x t gap ax w f g m o k0 k cs deep len low on =
    let p3 : Point = onward (onward (onward p 110) 111) 116 in
    let e2 : behind p (110 ∷ 111 ∷ 116 ∷ x) ≡ behind (onward (onward (onward p 110) 111) 116) x = onward_behind p 110 (111 ∷ 116 ∷ x) ∙ onward_behind (onward p 110) 111 (116 ∷ x) ∙ onward_behind (onward (onward p 110) 111) 116 x in
    let e3 : behind p (110 ∷ 111 ∷ 116 ∷ (x ++ t)) ≡ behind (behind (onward (onward (onward p 110) 111) 116) x) t = onward_behind p 110 (111 ∷ 116 ∷ (x ++ t)) ∙ onward_behind (onward p 110) 111 (116 ∷ (x ++ t)) ∙ onward_behind (onward (onward p 110) 111) 116 (x ++ t) ∙ behind_append (onward (onward (onward p 110) 111) 116) x t in
    let g' : Claim (behind (onward (onward (onward p 110) 111) 116) x) d c 7 t e ks = subst (λ (v : Point). Claim v d c 7 t e ks) e2 g in
    let r = ready_word x (onward (onward (onward p 110) 111) 116) (Word true not_word) o k (Waits Denied ∷ k) cs t (λ free l b i. rw (not_40 b i, i) refl) (λ free l. not_open free l o k cs) ax f w in
    let q = g' r.mode o r.stack (Waits Denied ∷ k) cs deep len (omega arith) r.on in
    record {
      mode = q.mode;
      stack = q.stack;
      tree = q.tree;
      is = stepped p m o k0 cs 110 (111 ∷ 116 ∷ (x ++ t)) (Some (state (Word true (110 ∷ [])) 110 o k cs)) (on (is_zero p.held) ∙ rw (gap, le_test (floor k) 6 low, not_begins (has_room cs) (110 ∷ []) refl) refl)
          ∙ stepped (onward p 110) (Word true (110 ∷ [])) o k cs 111 (116 ∷ (x ++ t)) (Some (state (Word true (110 ∷ 111 ∷ [])) 111 o k cs)) (rw (not_begins (has_room cs) (110 ∷ 111 ∷ []) refl) refl)
          ∙ stepped (onward (onward p 110) 111) (Word true (110 ∷ 111 ∷ [])) o k cs 116 (x ++ t) (Some (state (Word true not_word) 116 o k cs)) (rw (not_begins (has_room cs) not_word refl) refl)
          ∙ two_runs (onward (onward (onward p 110) 111) 116) (Some (state (Word true not_word) 116 o k cs)) (Some (state r.mode (behind (onward (onward (onward p 110) 111) 116) x).last o r.stack cs)) x t r.is
          ∙ q.is
          ∙ ap (λ (v : Point). Some (state q.mode v.last o q.stack (cs ++ ks))) (sym e3);
      holds = q.holds;
      folds = λ i j. q.folds i (omega arith) ∙ rw (le_test i 6 j) refl;
    }
  where
    not_40 : (b : ℕ) → is_blank b ≡ true → (b == 40) ≡ false
    not_40 b h = grind (arith, nat_tests)

do_joined : (p : Point) (d c l : ℕ) (a b : Tree) (ks js : List Call) (op : Op) (t x y u : List ℕ) → l ≡ op_level op → Claim p d c l t a ks → IsFirst (first_byte t) → AreBlanks x → AreBlanks y → StandsApart op (behind p (t ++ x)).last (first_byte (y ++ u))
    → Claim (behind p (t ++ (x ++ (op_text op ++ y)))) d (c + length ks) (suc l) u b js → IsFirst (first_byte u) → Claim p d c l (t ++ (x ++ (op_text op ++ (y ++ u)))) (binary op a b) (ks ++ js)
do_joined p d c l a b ks js op t x y u lev g f ax ay w g2 f2 m o k0 k cs deep len low on =
    let on1 : On m p.last o k0 k cs t = subst (λ (v : ℕ). (free : Bool) → move free m p.last o k0 cs v ≡ operand p.last o k cs v) (first_kept t (x ++ (op_text op ++ (y ++ u))) f.0) on in
    let q = g m o k0 k cs deep len low on1 in
    let r = blanks_held x (behind p t) q.mode o q.stack (cs ++ ks) q.tree ax q.holds in
    let p2 : Point = behind (behind p t) x in
    let w' : StandsApart op (behind (behind p t) x).last (first_byte (y ++ u)) = subst (λ (v : Point). StandsApart op v.last (first_byte (y ++ u))) (behind_append p t x) w in
    let z = op_ready op y (behind (behind p t) x) r.0 q.tree o q.stack (cs ++ ks) u r.2 ay f2 w' in
    let folded : reduced (op_level op) q.stack q.tree ≡ (k, a) = subst (λ (v : ℕ). reduced v q.stack q.tree ≡ (k, a)) lev (q.folds l (omega arith) ∙ still l k a low) in
    let on2 : On z.mode (behind (behind (behind p t) x) (op_text op ++ y)).last o z.stack (Waits (Left op a) ∷ k) (cs ++ ks) u = subst (λ (v : List Pending). On z.mode (behind (behind (behind p t) x) (op_text op ++ y)).last o z.stack v (cs ++ ks) u) (ap (λ (v : List Pending × Tree). pushed op v) folded) z.on in
    let e2 : behind p (t ++ (x ++ (op_text op ++ y))) ≡ behind (behind (behind p t) x) (op_text op ++ y) = behind_append p t (x ++ (op_text op ++ y)) ∙ behind_append (behind p t) x (op_text op ++ y) in
    let e3 : behind p (t ++ (x ++ (op_text op ++ (y ++ u)))) ≡ behind (behind (behind (behind p t) x) (op_text op ++ y)) u = ap (λ (v : List ℕ). behind p (t ++ (x ++ v))) (sym (append_assoc (op_text op) y u)) ∙ behind_append p t (x ++ ((op_text op ++ y) ++ u)) ∙ behind_append (behind p t) x ((op_text op ++ y) ++ u) ∙ behind_append (behind (behind p t) x) (op_text op ++ y) u in
    let g' : Claim (behind (behind (behind p t) x) (op_text op ++ y)) d (c + length ks) (suc l) u b js = subst (λ (v : Point). Claim v d (c + length ks) (suc l) u b js) e2 g2 in
    let v = g' z.mode o z.stack (Waits (Left op a) ∷ k) (cs ++ ks) deep (length-append cs ks ∙ ap (λ (n : ℕ). n + length ks) len) (omega (arith, lev)) on2 in
    record {
      mode = v.mode;
      stack = v.stack;
      tree = v.tree;
      is = two_runs p (Some (state m p.last o k0 cs)) (Some (state q.mode (behind p t).last o q.stack (cs ++ ks))) t (x ++ (op_text op ++ (y ++ u))) q.is
          ∙ two_runs (behind p t) (Some (state q.mode (behind p t).last o q.stack (cs ++ ks))) (Some (state r.0 (behind (behind p t) x).last o q.stack (cs ++ ks))) x (op_text op ++ (y ++ u)) r.1
          ∙ ap (λ (n : List ℕ). after (behind (behind p t) x).held (Some (state r.0 (behind (behind p t) x).last o q.stack (cs ++ ks))) n) (sym (append_assoc (op_text op) y u))
          ∙ two_runs (behind (behind p t) x) (Some (state r.0 (behind (behind p t) x).last o q.stack (cs ++ ks))) (Some (state z.mode (behind (behind (behind p t) x) (op_text op ++ y)).last o z.stack (cs ++ ks))) (op_text op ++ y) u z.is
          ∙ v.is
          ∙ ap (λ (n : List Call). Some (state v.mode (behind (behind (behind (behind p t) x) (op_text op ++ y)) u).last o v.stack n)) (append_assoc cs ks js)
          ∙ ap (λ (n : Point). Some (state v.mode n.last o v.stack (cs ++ (ks ++ js)))) (sym e3);
      holds = v.holds;
      folds = λ i j. v.folds i (omega arith) ∙ rw (le_test i (op_level op) (omega (arith, lev))) refl;
    }

pub complete : {p : Point} {d c l : ℕ} {t : List ℕ} {e : Tree} {ks : List Call} → Spells p d c l t e ks → Claim p d c l t e ks
complete (number {p} {d} {c} {text = t} n h) = do_number p d c t n h
complete (called {p} {d} {c} {text = t} k h g) = do_call p d c t k h g
complete (paren {p} {d} {c} {text} {e} {ks} x t y a s b q) = subst (λ (v : List ℕ). Claim p (suc d) c 8 v e ks) (sym q) (do_paren p d c e ks x t y a (begins_with s) (complete s) b)
complete (minus {p} {d} {c} {text} {e} {ks} x t a s q) = subst (λ (v : List ℕ). Claim p d c 7 v (negative e) ks) (sym q) (do_minus p d c e ks x t a (begins_with s) (complete s))
complete (denied {p} {d} {c} {text} {e} {ks} x t g a n s q) = subst (λ (v : List ℕ). Claim p d c 6 v (negation e) ks) (sym q) (do_denied p d c e ks x t g a n (begins_with s) (complete s))
complete (tighter {p} {d} {c} {l} {text = t} {e} {ks} s) = λ m o k0 k cs deep len low on.
    let q = complete s m o k0 k cs deep len (omega arith) on in record { mode = q.mode; stack = q.stack; tree = q.tree; is = q.is; holds = q.holds; folds = λ i j. q.folds i (omega arith) }
complete (joined {p} {d} {c} {l} {text} {a} {b} {ks} {js} op t x y u h s i j w z q) = subst (λ (v : List ℕ). Claim p d c l v (binary op a b) (ks ++ js)) (sym q) (do_joined p d c l a b ks js op t x y u h (complete s) (begins_with s) i j w (complete z) (begins_with z))

-- the machine makes the grammar's tree and calls of a text of the grammar
pub taken : (n : ℕ) (text : List ℕ) (e : Tree) (ks : List Call) → Spells (beginning n) 32 0 0 text e ks → ends_at (after n (Some start) text) ≡ Some (e, ks)
taken n text e ks s =
    let q = complete s Begin 0 [] [] [] (omega arith) refl (omega arith) (λ free. refl) in
    ap (λ (o : Option State). ends_at o) q.is ∙ ap (λ (o : Option Tree). ends_by o (behind (beginning n) text).last q.stack ks) q.holds ∙ rw (ends_with s (beginning n)) (rw (q.folds 0 (omega arith)) refl)

-- so no text is two expressions
pub one : (text : List ℕ) (e f : Tree) (ks js : List Call) → IsExpr text e ks → IsExpr text f js → (e ≡ f) × (ks ≡ js)
one text e f ks js s t =
    let a = some_is (e, ks) (f, js) (sym (taken (length text) text e ks s) ∙ taken (length text) text f js t) in
    (ap (λ (v : Tree × List Call). v.0) a, ap (λ (v : Tree × List Call). v.1) a)
