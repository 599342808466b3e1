-- Runs over parts of expressions.
use Rattle.std.proofs.Common.{◌≡◌, ℕ, ◌+◌, ◌≤◌, ◌<◌, List, [], ◌∷◌, ◌++◌, length, refl, ap, sym, ◌∙◌, Option, Some, None, Bool, true, false, arith, nat_le, ◌==◌, subst, inl, inr, if◌then◌else◌, pos, append-nil}
use Rattle.std.proofs.lemmas.Bool.Decides.{nat_tests}
use Rattle.zbx_types.specs.Tree.{Tree, constant}
use Rattle.zbx_types.specs.declared.calls.Call.{Call}
use Rattle.zbx_types.specs.declared.calls.Fun.{Fun}
use Rattle.byte_grammar.specs.Bytes.{is_digit}
use Rattle.expr_parser.specs.declared.figures.Figures.{Figures}
use Rattle.expr_parser.specs.declared.pending.Pending.{Pending}
use Rattle.expr_parser.specs.Bytes.{is_blank, is_gap, AreBlanks, first_byte, Point, one_less, behind}
use Rattle.expr_parser.specs.Numbers.{IsNumber, decimal, suffixed}
use Rattle.expr_parser.specs.Functions.{name_of}
use Rattle.expr_parser.specs.Calls.{greatest_number}
use Rattle.expr_parser.specs.Figures.{figures_value, first_figure, is_figure}
use Rattle.expr_parser.specs.Machine.{floor, reduced, Mode, Operand, Word, Number, Done, State, state, has_room, is_begun, operand, behind as behind_operand, move, numbered, number_end, calling, go, is_zero, after, constant_of, held}
use Rattle.expr_parser.proofs.Lists.{snoc, behind_append, behind_one, way, le_test, lt_test, some_is, none_some, digit_le, digit_ge}
use Rattle.expr_parser.proofs.NumberPaths.{Path, here, there, number_path}
use Rattle.expr_parser.proofs.Words.{named, front_begins, are_letters, letters_first}

pub after_append : (p : Point) (s : Option State) (a b : List ℕ) → after p.held s (a ++ b) ≡ after (behind p a).held (after p.held s a) b
unfolding after behind
after_append p s [] b = refl
after_append p s (x ∷ a) b = after_append (record { held = one_less p.held; last = x }) (go (is_zero p.held) s x) a b

-- a run in two parts
pub two_runs : (p : Point) (s t : Option State) (a b : List ℕ) → after p.held s a ≡ t → after p.held s (a ++ b) ≡ after (behind p a).held t b
two_runs p s t a b e = after_append p s a b ∙ ap (λ (o : Option State). after (behind p a).held o b) e

pub stepped : (p : Point) (m : Mode) (o : ℕ) (k : List Pending) (cs : List Call) (b : ℕ) (bs : List ℕ) (t : Option State) → move (is_zero p.held) m p.last o k cs b ≡ t
    → after p.held (Some (state m p.last o k cs)) (b ∷ bs) ≡ after (one_less p.held) t bs
unfolding after
stepped p m o k cs b bs t e = ap (λ (v : Option State). after (one_less p.held) v bs) e

-- the point behind one byte
abbrev pub onward : Point → ℕ → Point
onward p b = record { held = one_less p.held; last = b }

pub onward_behind : (p : Point) (b : ℕ) (bs : List ℕ) → behind p (b ∷ bs) ≡ behind (onward p b) bs
unfolding behind
onward_behind p b bs = refl

pub nothing_run : (n : ℕ) (s : Option State) → after n s [] ≡ s
unfolding after
nothing_run n s = refl

-- ---- an operand that is there

pub blank_no_figure : (b : ℕ) → is_blank b ≡ true → is_figure b ≡ false
blank_no_figure b h = grind (arith, nat_tests)

pub number_held : (f : Figures) (x : Tree) (l o : ℕ) (k : List Pending) (cs : List Call) (b : ℕ) → constant_of (figures_value f) ≡ Some x → is_figure b ≡ false → move false (Number f) l o k cs b ≡ behind_operand x l o k cs b
number_held f x l o k cs b h n = rw n (at (figures_value f) h)
  where
    at : (v : Option ℕ) → constant_of v ≡ Some x → number_end v l o k cs b ≡ behind_operand x l o k cs b
    at None h = none_some x h
    at (Some n) h = elim (way (nat_le n greatest_number) (Some (constant (pos n))) None (Some x) h) [
      | inl z ↦ rw z.0 (ap (λ (y : Tree). behind_operand y l o k cs b) (some_is (constant (pos n)) x z.1))
      | inr z ↦ none_some x z.1
    ]

pub behind_step : (free : Bool) (m : Mode) (l o : ℕ) (k : List Pending) (cs : List Call) (b : ℕ) (x : Tree) → held m ≡ Some x → is_figure b ≡ false → move free m l o k cs b ≡ behind_operand x l o k cs b
behind_step free (Number f) l o k cs b x h n = number_held f x l o k cs b h n
behind_step free (Done y) l o k cs b x h n = ap (λ (z : Tree). behind_operand z l o k cs b) (some_is y x h)
behind_step free _ l o k cs b x h n = absurd cc

pub behind_blank : (x : Tree) (l o : ℕ) (k : List Pending) (cs : List Call) (b : ℕ) → is_blank b ≡ true → behind_operand x l o k cs b ≡ Some (state (Done x) b o k cs)
behind_blank x l o k cs b h = rw h refl

pub blanks_held : (bs : List ℕ) (p : Point) (m : Mode) (o : ℕ) (k : List Pending) (cs : List Call) (x : Tree) → AreBlanks bs → held m ≡ Some x
    → (m' : Mode) × (after p.held (Some (state m p.last o k cs)) bs ≡ Some (state m' (behind p bs).last o k cs)) × (held m' ≡ Some x)
unfolding after behind AreBlanks
blanks_held [] p m o k cs x a h = (m, refl, h)
blanks_held (b ∷ bs) p m o k cs x a h =
    let r = blanks_held bs (onward p b) (Done x) o k cs x a.1 refl in
    (r.0, stepped p m o k cs b bs (Some (state (Done x) b o k cs)) (behind_step (is_zero p.held) m p.last o k cs b x h (blank_no_figure b a.0) ∙ behind_blank x p.last o k cs b a.0) ∙ r.1, r.2)

pub blanks_operand : (bs : List ℕ) (p : Point) (o : ℕ) (k : List Pending) (cs : List Call) → AreBlanks bs → after p.held (Some (state Operand p.last o k cs)) bs ≡ Some (state Operand (behind p bs).last o k cs)
unfolding after behind AreBlanks
blanks_operand [] p o k cs a = refl
blanks_operand (b ∷ bs) p o k cs a = stepped p Operand o k cs b bs (Some (state Operand b o k cs)) (rw a.0 refl) ∙ blanks_operand bs (onward p b) o k cs a.1

-- ---- what the claims say

-- the state goes on with the text as one before an operand, with perhaps more that waits
abbrev pub On : Mode → ℕ → ℕ → List Pending → List Pending → List Call → List ℕ → Type 0
On m l o k0 k cs t = (free : Bool) → move free m l o k0 cs (first_byte t) ≡ operand l o k cs (first_byte t)

-- the run leads to an operand that, with what waits behind what did, is the tree on this level
pub record Leads (r : Option State) (l o : ℕ) (cs : List Call) (k : List Pending) (level : ℕ) (e : Tree) : Type 0 where
  pub mode : Mode
  pub stack : List Pending
  pub tree : Tree
  pub is : r ≡ Some (state mode l o stack cs)
  pub holds : held mode ≡ Some tree
  pub folds : (m : ℕ) → m ≤ level → reduced m stack tree ≡ reduced m k e

abbrev pub Claim : Point → ℕ → ℕ → ℕ → List ℕ → Tree → List Call → Type 0
Claim p d c l t e ks = (m : Mode) (o : ℕ) (k0 k : List Pending) (cs : List Call) → d + o ≡ 32 → length cs ≡ c → floor k ≤ l → On m p.last o k0 k cs t
    → Leads (after p.held (Some (state m p.last o k0 cs)) t) (behind p t).last o (cs ++ ks) k l e

-- ---- numbers

pub path_run : {f g : Figures} {bs : List ℕ} (p : Point) (o : ℕ) (k : List Pending) (cs : List Call) → Path greatest_number f bs g → after p.held (Some (state (Number f) p.last o k cs)) bs ≡ Some (state (Number g) (behind p bs).last o k cs)
unfolding after behind
path_run p o k cs (here {f}) = refl
path_run p o k cs (there {f} {g} {h} b {bs} i e q) = stepped p (Number f) o k cs b bs (Some (state (Number g) b o k cs)) (rw (i, e) refl) ∙ path_run (onward p b) o k cs q

pub number_small : {t : List ℕ} {n : ℕ} → IsNumber greatest_number t n → n ≤ greatest_number
number_small (decimal d e s) = s
number_small (suffixed u b m f d e s k p q t) = q

pub on_byte : (m : Mode) (l o : ℕ) (k0 k : List Pending) (cs : List Call) (b : ℕ) (bs t : List ℕ) → t ≡ b ∷ bs → On m l o k0 k cs t → (free : Bool) → move free m l o k0 cs b ≡ operand l o k cs b
on_byte m l o k0 k cs b bs t e on free = subst (λ (v : List ℕ). move free m l o k0 cs (first_byte v) ≡ operand l o k cs (first_byte v)) e (on free)

operand_digit : (l o : ℕ) (k : List Pending) (cs : List Call) (b : ℕ) → is_digit b ≡ true → operand l o k cs b ≡ numbered (first_figure greatest_number b) b o k cs
operand_digit l o k cs b h = rw (digit_le b h, digit_ge b h) refl

pub do_number : (p : Point) (d c : ℕ) (t : List ℕ) (n : ℕ) → IsNumber greatest_number t n → Claim p d c 8 t (constant (pos n)) []
do_number p d c t n h m o k0 k cs deep len low on =
    let r = number_path h in
    let first : move (is_zero p.held) m p.last o k0 cs r.first ≡ Some (state (Number r.begin) r.first o k cs) = on_byte m p.last o k0 k cs r.first r.more t r.is on (is_zero p.held) ∙ operand_digit p.last o k cs r.first r.digit ∙ ap (λ (g : Option Figures). numbered g r.first o k cs) r.starts in
    record {
      mode = Number r.place;
      stack = k;
      tree = constant (pos n);
      is = ap (λ (v : List ℕ). after p.held (Some (state m p.last o k0 cs)) v) r.is
          ∙ (stepped p m o k0 cs r.first r.more (Some (state (Number r.begin) r.first o k cs)) first ∙ path_run (onward p r.first) o k cs r.path)
          ∙ ap (λ (v : ℕ). Some (state (Number r.place) v o k cs)) (ap (λ (q : Point). q.last) (sym (onward_behind p r.first r.more)) ∙ ap (λ (v : List ℕ). (behind p v).last) (sym r.is))
          ∙ ap (λ (v : List Call). Some (state (Number r.place) (behind p t).last o k v)) (sym (append-nil cs));
      holds = rw (r.value, le_test n greatest_number (number_small h)) refl;
      folds = λ a b. refl;
    }

-- ---- calls

pub letter_bounds : (b : ℕ) → 96 < b → ((b == 40) ≡ false) × (is_blank b ≡ false) × (nat_le b 57 ≡ false)
letter_bounds b h = (grind (arith, nat_tests), grind (arith, nat_tests), grind (arith, nat_tests))

-- letters up to a word that may be begun
pub word_run : (nots : Bool) (bs w n : List ℕ) (p : Point) (o : ℕ) (k : List Pending) (cs : List Call) → are_letters bs ≡ true → w ++ bs ≡ n → ((a b : List ℕ) → a ++ b ≡ n → is_begun nots (has_room cs) a ≡ true)
    → after p.held (Some (state (Word nots w) p.last o k cs)) bs ≡ Some (state (Word nots n) (behind p bs).last o k cs)
unfolding after behind
word_run nots [] w n p o k cs h e g = ap (λ (v : List ℕ). Some (state (Word nots v) p.last o k cs)) (sym (append-nil w) ∙ e)
word_run nots (b ∷ bs) w n p o k cs h e g =
    let l = letters_first b bs h in
    let q = letter_bounds b l.0 in
    let f : (w ++ b ∷ []) ++ bs ≡ n = sym (snoc w b bs) ∙ e in
    stepped p (Word nots w) o k cs b bs (Some (state (Word nots (w ++ b ∷ [])) b o k cs)) (rw (q.0, q.1, g (w ++ b ∷ []) bs f) refl) ∙ word_run nots bs (w ++ b ∷ []) n (onward p b) o k cs l.1 f g

pub room : (cs : List Call) (c : ℕ) → length cs ≡ c → c < 32 → has_room cs ≡ true
room cs c e h = lt_test (length cs) 32 (omega arith)

-- from before an operand to the parenthesis behind a name
pub name_run : (f : Fun) (p : Point) (m : Mode) (o : ℕ) (k0 k : List Pending) (cs : List Call) (r : List ℕ) → has_room cs ≡ true → On m p.last o k0 k cs (name_of f ++ 40 ∷ r)
    → after p.held (Some (state m p.last o k0 cs)) (name_of f ++ 40 ∷ r) ≡ after (behind p (name_of f ++ 40 ∷ [])).held (Some (calling f o k cs)) r
name_run f p m o k0 k cs r h on =
    let n = named f in
    let nots : Bool = if is_gap p.last then nat_le (floor k) 6 else false in
    let begun : (a b : List ℕ) → a ++ b ≡ name_of f → is_begun (if is_gap p.last then nat_le (floor k) 6 else false) (has_room cs) a ≡ true = λ a b e. rw h (front_begins f (if is_gap p.last then nat_le (floor k) 6 else false) a b e) in
    let lf = letters_first n.first n.rest (subst (λ (v : List ℕ). are_letters v ≡ true) n.is n.letters) in
    let lb = letter_bounds n.first lf.0 in
    let e : name_of f ++ 40 ∷ r ≡ n.first ∷ (n.rest ++ 40 ∷ r) = ap (λ (v : List ℕ). v ++ 40 ∷ r) n.is in
    let first : move (is_zero p.held) m p.last o k0 cs n.first ≡ Some (state (Word (if is_gap p.last then nat_le (floor k) 6 else false) (n.first ∷ [])) n.first o k cs) = on_byte m p.last o k0 k cs n.first (n.rest ++ 40 ∷ r) (name_of f ++ 40 ∷ r) e on (is_zero p.held) ∙ rw (lb.2, begun (n.first ∷ []) n.rest (sym n.is)) refl in
    let run : after p.held (Some (state m p.last o k0 cs)) (name_of f) ≡ Some (state (Word (if is_gap p.last then nat_le (floor k) 6 else false) (name_of f)) (behind p (name_of f)).last o k cs) =
    ap (λ (v : List ℕ). after p.held (Some (state m p.last o k0 cs)) v) n.is
    ∙ stepped p m o k0 cs n.first n.rest (Some (state (Word (if is_gap p.last then nat_le (floor k) 6 else false) (n.first ∷ [])) n.first o k cs)) first
    ∙ word_run (if is_gap p.last then nat_le (floor k) 6 else false) n.rest (n.first ∷ []) (name_of f) (onward p n.first) o k cs lf.1 (sym n.is) begun
    ∙ ap (λ (v : ℕ). Some (state (Word (if is_gap p.last then nat_le (floor k) 6 else false) (name_of f)) v o k cs)) (ap (λ (q : Point). q.last) (sym (onward_behind p n.first n.rest)) ∙ ap (λ (v : List ℕ). (behind p v).last) (sym n.is)) in
    two_runs p (Some (state m p.last o k0 cs)) (Some (state (Word (if is_gap p.last then nat_le (floor k) 6 else false) (name_of f)) (behind p (name_of f)).last o k cs)) (name_of f) (40 ∷ r) run
    ∙ stepped (behind p (name_of f)) (Word (if is_gap p.last then nat_le (floor k) 6 else false) (name_of f)) o k cs 40 r (Some (calling f o k cs)) (rw (h, n.found) refl)
    ∙ ap (λ (q : ℕ). after q (Some (calling f o k cs)) r) (ap (λ (q : Point). q.held) (sym (behind_append p (name_of f) (40 ∷ []) ∙ behind_one (behind p (name_of f)) 40)))
