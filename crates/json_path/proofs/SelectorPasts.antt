-- What has come of a selector, in the words of the grammar.
use Rattle.std.proofs.Common.{◌≡◌, ◌<◌, ℕ, ℤ, List, [], ◌∷◌, ◌++◌, refl, ap, sym, ◌∙◌, Option, Some, None, Bool, true, false, ◌==◌, append_assoc, append-nil, subst, arith, length, length-append}
use Rattle.json_path.specs.declared.tokens.Quotation.{Quotation}
use Rattle.json_path.specs.declared.tokens.Quoting.{Quoting}
use Rattle.json_path.specs.declared.integers.Digits.{Digits}
use Rattle.json_path.specs.declared.path.Selector.{Selector}
use Rattle.json_path.specs.declared.path.Selector.TheVariants.{Names, Indexes, Slice, All, Where}
use Rattle.json_path.specs.declared.conditions.Checking.TheVariants as at
use Rattle.json_path.specs.declared.conditions.Checked.{Checked}
use Rattle.json_path.specs.declared.brackets.InBrackets.{InBrackets}
use Rattle.json_path.specs.declared.brackets.InBrackets.TheVariants as within
use Rattle.json_path.specs.declared.brackets.Chosen.{Chosen}
use Rattle.json_path.specs.declared.brackets.Chosen.TheVariants.{Open, Closed, Wrong}
use Rattle.byte_grammar.specs.Bytes.{Each, is_space, is_digit}
use Rattle.json_path.specs.Grammar.{mark, IsQuoted, quoted, IsInteger, Spaced, behind_spaces, with_space, AreListed, first, next, IsBound, no_bound, bound, IsSelector, names, indexes, slice, all, condition, padded}
use Rattle.json_path.specs.Tokens.{quotation, digit, begin_integer, integer}
use Rattle.json_path.specs.Machine.{choose, behind_selector, behind_integers, colon, quote_begins, quote_goes, integer_goes, bound_goes, condition_goes, selector_begins}
use Rattle.byte_grammar.proofs.Bytes.{each_snoc, each_none}
use Rattle.json_path.proofs.TokenPasts.{either, eq_true, QuotePast, QuoteBehind, goes, ends, wrong, quote_starts, quote_behind, DigitsPast, digits_start, digits_go, digits_whole}
use Rattle.json_path.proofs.ConditionPasts.{CheckPast, CheckBehind, open_so, met_so, wrong_so, check_behind}

-- what stands before an element of a list
pub data Ahead {A : Type 0} (P : List ℕ → A → Type 0) : List ℕ → List A → Type 0 where
  alone : {text : List ℕ} → Each is_space text → Ahead P text []
  behind_comma : {text : List ℕ} {values : List A} (u x : List ℕ) → AreListed P u values → Each is_space x → text ≡ u ++ 44 ∷ x → Ahead P text values

-- the element behind it
element : {A : Type 0} (P : List ℕ → A → Type 0) {v : List ℕ} {vs : List A} → Ahead P v vs → (t : List ℕ) (a : A) → P t a → AreListed P (v ++ t) (vs ++ a ∷ [])
element P (alone {text} e) t a p = first a (behind_spaces text t e p refl) refl
element P (behind_comma u x l e g) t a p = next u (x ++ t) _ a l (behind_spaces x t e p refl) (rw g (append_assoc u (44 ∷ x) t)) refl

-- a space behind a list
list_space : {A : Type 0} (P : List ℕ → A → Type 0) {u : List ℕ} {vs : List A} → AreListed P u vs → AreListed P (u ++ 32 ∷ []) vs
list_space P (first {text} a s e) = first a (with_space text s refl) e
list_space P (next u t vs a l s e g) = next u (t ++ 32 ∷ []) vs a l (with_space t s refl) (rw e (append_assoc u (44 ∷ t) (32 ∷ []))) g

-- a list has an element
filled : {u : List ℕ} {vs : List ℤ} → AreListed IsInteger u vs → 0 < length vs
filled (first a s e) = rw e (omega arith)
filled (next u t vs a l s e g) = rw g (omega (arith, length-append vs (a ∷ [])))

-- a list of one
alone_is : {u : List ℕ} {vs : List ℤ} (i : ℤ) → AreListed IsInteger u vs → vs ≡ i ∷ [] → Spaced IsInteger u i
alone_is i (first {text} a s e) g = let h : a ≡ i = cc in subst (λ (z : ℤ). Spaced IsInteger text z) h s
alone_is i (next u t vs a l s e g) h = absurd (let n = filled l in let m = ap (λ (z : List ℤ). length z) (sym g ∙ h) in omega (arith, length-append vs (a ∷ [])))

-- a selector so far
abbrev pub ChoicePast : InBrackets → List ℕ → Type 0
ChoicePast within.Before u = Each is_space u
ChoicePast (within.Quote ns q) u = (v : List ℕ) × (d : Bool) × (t : List ℕ) × Ahead IsQuoted v ns × QuotePast d q t × (u ≡ v ++ mark d ∷ t)
ChoicePast (within.Named ns) u = AreListed IsQuoted u ns
ChoicePast (within.NextName ns) u = (v : List ℕ) × (x : List ℕ) × AreListed IsQuoted v ns × Each is_space x × (u ≡ v ++ 44 ∷ x)
ChoicePast (within.Index is n) u = (v : List ℕ) × (t : List ℕ) × Ahead IsInteger v is × DigitsPast n t × (u ≡ v ++ t)
ChoicePast (within.Counted is) u = AreListed IsInteger u is
ChoicePast (within.NextIndex is) u = (v : List ℕ) × (x : List ℕ) × AreListed IsInteger v is × Each is_space x × (u ≡ v ++ 44 ∷ x)
ChoicePast (within.From f) u = (v : List ℕ) × (x : List ℕ) × IsBound v f × Each is_space x × (u ≡ v ++ 58 ∷ x)
ChoicePast (within.To f n) u = (v : List ℕ) × (x : List ℕ) × (t : List ℕ) × IsBound v f × Each is_space x × DigitsPast n t × (u ≡ v ++ 58 ∷ (x ++ t))
ChoicePast within.Question u = (x : List ℕ) × Each is_space x × (u ≡ x ++ 63 ∷ [])
ChoicePast (within.Condition c) u = (x : List ℕ) × (v : List ℕ) × Each is_space x × CheckPast c v × (u ≡ x ++ 63 ∷ 40 ∷ v)
ChoicePast (within.Whole s) u = IsSelector u s

-- what a byte makes of it
pub data ChoiceBehind (u : List ℕ) (b : ℕ) : Chosen → Type 0 where
  open_in : (m : InBrackets) → ChoicePast m (u ++ b ∷ []) → ChoiceBehind u b (Open m)
  closed_in : (s : Selector) → b ≡ 93 → IsSelector u s → ChoiceBehind u b (Closed s)
  wrong_in : ChoiceBehind u b Wrong

last_is : (u : List ℕ) (b c : ℕ) → (b == c) ≡ true → u ++ b ∷ [] ≡ u ++ c ∷ []
last_is u b c h = ap (λ (v : ℕ). u ++ v ∷ []) (eq_true b c h)

selector_behind : (u : List ℕ) (b : ℕ) (s : Selector) → IsSelector u s → ChoiceBehind u b (behind_selector s b)
selector_behind u b s k =
    let P : Chosen → Type 0 = λ z. ChoiceBehind u b z in
    either P (b == 32) _ _ (λ h. open_in (within.Whole s) (padded u k (last_is u b 32 h)))
    (λ n. either P (b == 93) _ _ (λ h. closed_in s (eq_true b 93 h) k) (λ m. wrong_in))

colon_behind : (u : List ℕ) (b : ℕ) (is : List ℤ) → (b == 58) ≡ true → AreListed IsInteger u is → ChoiceBehind u b (colon is)
colon_behind u b [] h l = wrong_in
colon_behind u b (i ∷ []) h l = open_in (within.From (Some i)) (u, [], bound i (alone_is i l refl), each_none is_space, last_is u b 58 h)
colon_behind u b (i ∷ j ∷ is) h l = wrong_in

integers_behind : (u : List ℕ) (b : ℕ) (is : List ℤ) → AreListed IsInteger u is → ChoiceBehind u b (behind_integers is b)
integers_behind u b is l =
    let P : Chosen → Type 0 = λ z. ChoiceBehind u b z in
    either P (b == 32) _ _ (λ h. open_in (within.Counted is) (subst (λ (w : List ℕ). AreListed IsInteger w is) (sym (last_is u b 32 h)) (list_space IsInteger l)))
    (λ n. either P (b == 44) _ _ (λ h. open_in (within.NextIndex is) (u, [], l, each_none is_space, last_is u b 44 h))
    (λ n. either P (b == 58) _ _ (λ h. colon_behind u b is h l)
    (λ n. either P (b == 93) _ _ (λ h. closed_in (Indexes is) (eq_true b 93 h) (indexes is l)) (λ m. wrong_in))))

quote_on : (u : List ℕ) (b : ℕ) (ns : List (List ℕ)) → Ahead IsQuoted u ns → (d : Bool) → b ≡ mark d → ChoiceBehind u b (Open (within.Quote ns (quotation d)))
quote_on u b ns k d h = open_in (within.Quote ns (quotation d)) (u, d, [], k, quote_starts d, ap (λ (v : ℕ). u ++ v ∷ []) h)

in_quote : (u : List ℕ) (b : ℕ) (ns : List (List ℕ)) (v : List ℕ) (d : Bool) (t : List ℕ) → Ahead IsQuoted v ns → u ≡ v ++ mark d ∷ t → {r : Quoting} → QuoteBehind d t b r → ChoiceBehind u b (quote_goes ns r)
in_quote u b ns v d t k g (goes r p) = open_in (within.Quote ns r) (v, d, t ++ b ∷ [], k, p, rw g (append_assoc v (mark d ∷ t) (b ∷ [])))
in_quote u b ns v d t k g (ends w h i j) =
    let m = mark d ∷ (t ++ mark d ∷ []) in
    let e : u ++ b ∷ [] ≡ v ++ m = rw (g, h) (append_assoc v (mark d ∷ t) (mark d ∷ [])) in
    open_in (within.Named (ns ++ w ∷ [])) (subst (λ (z : List ℕ). AreListed IsQuoted z (ns ++ w ∷ [])) (sym e) (element IsQuoted k m w (quoted d t i j refl)))
in_quote u b ns v d t k g wrong = wrong_in

integer_on : (u : List ℕ) (b : ℕ) (is : List ℤ) (v t : List ℕ) → Ahead IsInteger v is → u ≡ v ++ t → (o : Option Digits) → ((r : Digits) → o ≡ Some r → DigitsPast r (t ++ b ∷ [])) → ChoiceBehind u b (integer_goes is o)
integer_on u b is v t k g None h = wrong_in
integer_on u b is v t k g (Some r) h = open_in (within.Index is r) (v, t ++ b ∷ [], k, h r refl, rw g (append_assoc v t (b ∷ [])))

bound_on : (u : List ℕ) (b : ℕ) (f : Option ℤ) (v x t : List ℕ) → IsBound v f → Each is_space x → u ≡ v ++ 58 ∷ (x ++ t) → (o : Option Digits) → ((r : Digits) → o ≡ Some r → DigitsPast r (t ++ b ∷ [])) → ChoiceBehind u b (bound_goes f o)
bound_on u b f v x t k e g None h = wrong_in
bound_on u b f v x t k e g (Some r) h = open_in (within.To f r) (v, x, t ++ b ∷ [], k, e, h r refl, rw g (simp append_assoc))

in_condition : (u : List ℕ) (b : ℕ) (x v : List ℕ) → Each is_space x → u ≡ x ++ 63 ∷ 40 ∷ v → {c : Checked} → CheckBehind v b c → ChoiceBehind u b (condition_goes c)
in_condition u b x v e g (open_so m k) = open_in (within.Condition m) (x, v ++ b ∷ [], e, k, rw g (append_assoc x (63 ∷ 40 ∷ v) (b ∷ [])))
in_condition u b x v e g (met_so c h k) = open_in (within.Whole (Where c)) (condition x v c e k (rw (g, h) (append_assoc x (63 ∷ 40 ∷ v) (41 ∷ []))))
in_condition u b x v e g wrong_so = wrong_in

before_behind : (u : List ℕ) (b : ℕ) → Each is_space u → ChoiceBehind u b (choose within.Before b)
before_behind u b k =
    let P : Chosen → Type 0 = λ z. ChoiceBehind u b z in
    let Q : Option Quotation → Type 0 = λ o. ChoiceBehind u b (selector_begins b o) in
    either P (b == 32) _ _ (λ h. open_in within.Before (each_snoc is_space u b k h))
    (λ n. either Q (b == 34) _ _ (λ h. quote_on u b [] (alone k) true (eq_true b 34 h))
    (λ n. either Q (b == 39) _ _ (λ h. quote_on u b [] (alone k) false (eq_true b 39 h))
    (λ n. either P (b == 42) _ _ (λ h. open_in (within.Whole All) (all u k (last_is u b 42 h)))
    (λ n. either P (b == 63) _ _ (λ h. open_in within.Question (u, k, last_is u b 63 h))
    (λ n. either P (b == 58) _ _ (λ h. open_in (within.From None) (u, [], no_bound k, each_none is_space, last_is u b 58 h))
    (λ n. integer_on u b [] u [] (alone k) (sym (append-nil u)) (begin_integer b) (λ r e. digits_start b r e)))))))

-- a byte leaves what has come of a selector
pub choice_behind : (m : InBrackets) (u : List ℕ) (b : ℕ) → ChoicePast m u → ChoiceBehind u b (choose m b)
choice_behind within.Before u b k = before_behind u b k
choice_behind (within.Quote ns q) u b k = in_quote u b ns k.0 k.1 k.2 k.3 k.5 (quote_behind k.1 q k.2 b k.4)
choice_behind (within.Named ns) u b k =
    let P : Chosen → Type 0 = λ z. ChoiceBehind u b z in
    either P (b == 44) _ _ (λ h. open_in (within.NextName ns) (u, [], k, each_none is_space, last_is u b 44 h))
    (λ n. either P (b == 32) _ _ (λ h. open_in (within.Named ns) (subst (λ (w : List ℕ). AreListed IsQuoted w ns) (sym (last_is u b 32 h)) (list_space IsQuoted k)))
    (λ n. either P (b == 93) _ _ (λ h. closed_in (Names ns) (eq_true b 93 h) (names ns k)) (λ m. wrong_in)))
choice_behind (within.NextName ns) u b k =
    let P : Chosen → Type 0 = λ z. ChoiceBehind u b z in
    let Q : Option Quotation → Type 0 = λ o. ChoiceBehind u b (quote_begins ns o) in
    let a : Ahead IsQuoted u ns = behind_comma k.0 k.1 k.2 k.3 k.4 in
    either P (b == 32) _ _ (λ h. open_in (within.NextName ns) (k.0, k.1 ++ b ∷ [], k.2, each_snoc is_space k.1 b k.3 h, rw k.4 (append_assoc k.0 (44 ∷ k.1) (b ∷ []))))
    (λ n. either Q (b == 34) _ _ (λ h. quote_on u b ns a true (eq_true b 34 h))
    (λ n. either Q (b == 39) _ _ (λ h. quote_on u b ns a false (eq_true b 39 h)) (λ m. wrong_in)))
choice_behind (within.Index is n) u b k =
    let P : Chosen → Type 0 = λ z. ChoiceBehind u b z in
    either P (is_digit b) _ _ (λ h. integer_on u b is k.0 k.1 k.2 k.4 (digit n b) (λ r e. digits_go n k.1 b r k.3 h e))
    (λ m. either P n.any _ _ (λ h. integers_behind u b (is ++ integer n ∷ []) (subst (λ (w : List ℕ). AreListed IsInteger w (is ++ integer n ∷ [])) (sym k.4) (element IsInteger k.2 k.1 (integer n) (digits_whole n k.1 k.3 h)))) (λ l. wrong_in))
choice_behind (within.Counted is) u b k = integers_behind u b is k
choice_behind (within.NextIndex is) u b k =
    let a : Ahead IsInteger u is = behind_comma k.0 k.1 k.2 k.3 k.4 in
    either (λ z. ChoiceBehind u b z) (b == 32) _ _ (λ h. open_in (within.NextIndex is) (k.0, k.1 ++ b ∷ [], k.2, each_snoc is_space k.1 b k.3 h, rw k.4 (append_assoc k.0 (44 ∷ k.1) (b ∷ []))))
    (λ n. integer_on u b is u [] a (sym (append-nil u)) (begin_integer b) (λ r e. digits_start b r e))
choice_behind (within.From f) u b k =
    let P : Chosen → Type 0 = λ z. ChoiceBehind u b z in
    either P (b == 32) _ _ (λ h. open_in (within.From f) (k.0, k.1 ++ b ∷ [], k.2, each_snoc is_space k.1 b k.3 h, rw k.4 (append_assoc k.0 (58 ∷ k.1) (b ∷ []))))
    (λ n. either P (b == 93) _ _ (λ h. closed_in (Slice f None) (eq_true b 93 h) (slice k.0 k.1 f None k.2 (no_bound k.3) k.4))
    (λ m. bound_on u b f k.0 k.1 [] k.2 k.3 (rw (k.4, append-nil) refl) (begin_integer b) (λ r e. digits_start b r e)))
choice_behind (within.To f n) u b k =
    let P : Chosen → Type 0 = λ z. ChoiceBehind u b z in
    let s : Selector = Slice f (Some (integer n)) in
    either P (is_digit b) _ _ (λ h. bound_on u b f k.0 k.1 k.2 k.3 k.4 k.6 (digit n b) (λ r e. digits_go n k.2 b r k.5 h e))
    (λ m. either P n.any _ _ (λ h. selector_behind u b s (slice k.0 (k.1 ++ k.2) f (Some (integer n)) k.3 (bound (integer n) (behind_spaces k.1 k.2 k.4 (digits_whole n k.2 k.5 h) refl)) k.6)) (λ l. wrong_in))
choice_behind within.Question u b k = either (λ z. ChoiceBehind u b z) (b == 40) _ _
    (λ h. open_in (within.Condition at.Before) (k.0, [], k.1, each_none is_space, rw (k.2, eq_true b 40 h) (append_assoc k.0 (63 ∷ []) (40 ∷ [])))) (λ n. wrong_in)
choice_behind (within.Condition c) u b k = in_condition u b k.0 k.1 k.2 k.4 (check_behind c k.1 b k.3)
choice_behind (within.Whole s) u b k = selector_behind u b s k
