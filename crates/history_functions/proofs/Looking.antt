-- Windows that are looked through by places.
use Rattle.std.proofs.Common.{◌≡◌, ◌≢◌, ◌≤◌, ◌<◌, ◌+◌, ◌-◌, ℕ, ◌+ℤ◌, ℤ, List, [], ◌∷◌, ◌++◌, length, drop, slice_get, get_or, Bool, true, false, cond, Option, Some, None, is_some, refl, ap, sym, ◌∙◌, arith, append_assoc}
use Rattle.std.proofs.Math.IntN.{+ℤ_assoc}
use Rattle.std.proofs.lemmas.List.{drop_all, drop_more, length-drop}
use Rattle.std.proofs.lemmas.List.Sums.{sum_by-cons}
use Rattle.std.proofs.lemmas.Option.{slice_get_within, get_or_from_slice_get, slice_get-get_or}
use Rattle.std.specs.List.{cons_option, zip}
use Rattle.std.specs.Prelude.{MatchOption, ◌||◌}
use Rattle.zbx_types.specs.Arithmetic.{in_range}
use Rattle.zbx_types.specs.Numbers.{least, greatest, total}
use Rattle.zbx_types.specs.declared.entries.Held.{Held}
use Rattle.zbx_types.specs.declared.entries.Held.TheVariants.{Number, Words}
use Rattle.zbx_types.specs.declared.entries.Stored.{Stored}
use Rattle.zbx_types.specs.declared.operators.Operator.{Operator}
use Rattle.history_functions.specs.Changes.{counts, changes}
use Rattle.history_functions.specs.Matching.{matches, count_matching, any_matches}
use Rattle.history_functions.specs.Numbers.{lesser, greater, min_of, max_of, sum_of_numbers}
use Rattle.history_functions.specs.Values.{number_before, number_in, number_of, numbers}
use Rattle.history_functions.specs.declared.changes.Counted.{Counted}

-- what is left from a place on
drop_got : {A : Type 0} (xs : List A) (i : ℕ) (x : A) → slice_get xs i ≡ Some x → drop i xs ≡ x ∷ drop (i + 1) xs
drop_got xs i x e = drop_more xs i x (slice_get_within xs i x e) ∙ ap (λ z. z ∷ drop (i + 1) xs) (get_or_from_slice_get xs i x x e)

-- there is a value at each place
pub none_past : {A : Type 0} (xs : List A) (i : ℕ) → slice_get xs i ≡ None → i < length xs → ⊥
none_past [] i e l = omega (arith, l)
none_past (x ∷ xs) i e l = let s : Some (get_or (x ∷ xs) i x) ≡ None = sym (slice_get-get_or (x ∷ xs) i x l) ∙ e in cc

-- a value before numbers
before_is : (h : Held) (zs : List ℤ) → number_before h zs ≡ cons_option (number_of h) zs
before_is (Number z) zs = refl
before_is (Words text) zs = refl

-- the numbers from a place on
numbers_on : (ss : List Stored) (i : ℕ) (o : Option ℤ) → i < length ss → o ≡ number_in (slice_get ss i) → numbers (drop i ss) ≡ cons_option o (numbers (drop (i + 1) ss))
numbers_on ss i o l e = go (slice_get ss i) refl
  where
    go : (g : Option Stored) → slice_get ss i ≡ g → numbers (drop i ss) ≡ cons_option o (numbers (drop (i + 1) ss))
    go None q = absurd (none_past ss i q l)
    go (Some s) q =
        ap numbers (drop_got ss i s q) ∙ before_is s.value (numbers (drop (i + 1) ss)) ∙ ap (λ n. cons_option n (numbers (drop (i + 1) ss))) (sym (e ∙ ap number_in q))

numbers_end : (ss : List Stored) (i : ℕ) → length ss ≤ i → numbers (drop i ss) ≡ []
numbers_end ss i l = ap numbers (drop_all i ss l)

-- a list of them
cons_more : (o : Option ℤ) (zs : List ℤ) → cons_option o zs ≡ cons_option o [] ++ zs
cons_more None zs = refl
cons_more (Some z) zs = refl

pub list_more : (ss : List Stored) (i : ℕ) (o : Option ℤ) (made after whole : List ℤ) → i < length ss → o ≡ number_in (slice_get ss i) → after ≡ made ++ cons_option o []
    → made ++ numbers (drop i ss) ≡ whole → after ++ numbers (drop (i + 1) ss) ≡ whole
list_more ss i o made after whole l e a was =
    let rest = numbers (drop (i + 1) ss) in
    ap (λ x. x ++ rest) a ∙ append_assoc made (cons_option o []) rest ∙ ap (λ x. made ++ x) (sym (cons_more o rest)) ∙ ap (λ x. made ++ x) (sym (numbers_on ss i o l e)) ∙ was

-- how many they are
one_more : (o : Option ℤ) (zs : List ℤ) → length (cons_option o zs) ≡ cond (is_some o) 1 0 + length zs
one_more None zs = omega arith
one_more (Some z) zs = omega arith

pub count_more : (ss : List Stored) (i : ℕ) (o : Option ℤ) (count one whole : ℕ) → i < length ss → o ≡ number_in (slice_get ss i) → one ≡ cond (is_some o) 1 0
    → count + length (numbers (drop i ss)) ≡ whole → (count + one) + length (numbers (drop (i + 1) ss)) ≡ whole
count_more ss i o count one whole l e a was =
    let step : length (numbers (drop i ss)) ≡ one + length (numbers (drop (i + 1) ss)) = ap length (numbers_on ss i o l e) ∙ one_more o (numbers (drop (i + 1) ss)) ∙ ap (λ n. n + length (numbers (drop (i + 1) ss))) (sym a) in
    omega (arith, step, was)

-- the one that is sought
pub nth_more : (ss : List Stored) (i left less : ℕ) (o w : Option ℤ) → i < length ss → o ≡ number_in (slice_get ss i)
    → slice_get (cons_option o (numbers (drop (i + 1) ss))) left ≡ slice_get (numbers (drop (i + 1) ss)) less
    → slice_get (numbers (drop i ss)) left ≡ w → slice_get (numbers (drop (i + 1) ss)) less ≡ w
nth_more ss i left less o w l e a was = sym a ∙ ap (λ zs. slice_get zs left) (sym (numbers_on ss i o l e)) ∙ was

pub nth_found : (ss : List Stored) (i left : ℕ) (z : ℤ) (o w : Option ℤ) → i < length ss → o ≡ number_in (slice_get ss i)
    → slice_get (cons_option o (numbers (drop (i + 1) ss))) left ≡ Some z
    → slice_get (numbers (drop i ss)) left ≡ w → Some z ≡ w
nth_found ss i left z o w l e a was = sym a ∙ ap (λ zs. slice_get zs left) (sym (numbers_on ss i o l e)) ∙ was

pub nth_none : (ss : List Stored) (i left : ℕ) (w : Option ℤ) → length ss ≤ i → slice_get (numbers (drop i ss)) left ≡ w → None ≡ w
nth_none ss i left w l was = ap (λ zs. slice_get zs left) (sym (numbers_end ss i l)) ∙ was

-- the least of numbers and another one, if that is there
abbrev pub min_with : Option ℤ → List ℤ → Option ℤ
min_with None zs = min_of zs
min_with (Some z) zs = Some (least z zs)

abbrev pub max_with : Option ℤ → List ℤ → Option ℤ
max_with None zs = max_of zs
max_with (Some z) zs = Some (greatest z zs)

lesser_on : (one o : Option ℤ) (zs : List ℤ) → min_with (lesser one o) zs ≡ min_with one (cons_option o zs)
lesser_on None None zs = refl
lesser_on None (Some x) zs = refl
lesser_on (Some z) None zs = refl
lesser_on (Some z) (Some x) zs = refl

greater_on : (one o : Option ℤ) (zs : List ℤ) → max_with (greater one o) zs ≡ max_with one (cons_option o zs)
greater_on None None zs = refl
greater_on None (Some x) zs = refl
greater_on (Some z) None zs = refl
greater_on (Some z) (Some x) zs = refl

pub min_more : (ss : List Stored) (i : ℕ) (o one less w : Option ℤ) → i < length ss → o ≡ number_in (slice_get ss i) → less ≡ lesser one o
    → min_with one (numbers (drop i ss)) ≡ w → min_with less (numbers (drop (i + 1) ss)) ≡ w
min_more ss i o one less w l e a was =
    let rest = numbers (drop (i + 1) ss) in
    ap (λ x. min_with x rest) a ∙ lesser_on one o rest ∙ ap (min_with one) (sym (numbers_on ss i o l e)) ∙ was

pub max_more : (ss : List Stored) (i : ℕ) (o one more w : Option ℤ) → i < length ss → o ≡ number_in (slice_get ss i) → more ≡ greater one o
    → max_with one (numbers (drop i ss)) ≡ w → max_with more (numbers (drop (i + 1) ss)) ≡ w
max_more ss i o one more w l e a was =
    let rest = numbers (drop (i + 1) ss) in
    ap (λ x. max_with x rest) a ∙ greater_on one o rest ∙ ap (max_with one) (sym (numbers_on ss i o l e)) ∙ was

min_alone : (one : Option ℤ) → one ≡ min_with one []
min_alone None = refl
min_alone (Some z) = refl

max_alone : (one : Option ℤ) → one ≡ max_with one []
max_alone None = refl
max_alone (Some z) = refl

pub min_end : (ss : List Stored) (i : ℕ) (one w : Option ℤ) → length ss ≤ i → min_with one (numbers (drop i ss)) ≡ w → one ≡ w
min_end ss i one w l was = min_alone one ∙ ap (min_with one) (sym (numbers_end ss i l)) ∙ was

pub max_end : (ss : List Stored) (i : ℕ) (one w : Option ℤ) → length ss ≤ i → max_with one (numbers (drop i ss)) ≡ w → one ≡ w
max_end ss i one w l was = max_alone one ∙ ap (max_with one) (sym (numbers_end ss i l)) ∙ was

-- their sum
added_on : (o : Option ℤ) (sum more : ℤ) (zs : List ℤ) → MatchOption o (more ≡ sum) (λ z. more ≡ sum +ℤ z) → more +ℤ total zs ≡ sum +ℤ total (cons_option o zs)
added_on None sum more zs e = ap (λ x. x +ℤ total zs) e
added_on (Some z) sum more zs e = ap (λ x. x +ℤ total zs) e ∙ +ℤ_assoc sum z (total zs)

pub total_more : (ss : List Stored) (i : ℕ) (o : Option ℤ) (sum more w : ℤ) → i < length ss → o ≡ number_in (slice_get ss i) → MatchOption o (more ≡ sum) (λ z. more ≡ sum +ℤ z)
    → sum +ℤ total (numbers (drop i ss)) ≡ w → more +ℤ total (numbers (drop (i + 1) ss)) ≡ w
total_more ss i o sum more w l e a was =
    added_on o sum more (numbers (drop (i + 1) ss)) a ∙ ap (λ zs. sum +ℤ total zs) (sym (numbers_on ss i o l e)) ∙ was

pub sum_none : (zs : List ℤ) → length zs ≡ 0 → sum_of_numbers zs ≡ None
sum_none [] e = refl
sum_none (z ∷ zs) e = absurd (omega (arith, e))

pub sum_some : (zs : List ℤ) → length zs ≢ 0 → sum_of_numbers zs ≡ in_range (total zs)
sum_some [] ne = absurd (ne refl)
sum_some (z ∷ zs) ne = refl

-- neighbours from a place on
pub changes_more : (counted : Counted) (ss : List Stored) (i : ℕ) (earlier later : Stored) (count one w : ℕ) → slice_get ss i ≡ Some earlier → slice_get ss (i + 1) ≡ Some later
    → one ≡ cond (counts counted later.value earlier.value) 1 0 → count + changes counted (drop i ss) ≡ w → count + one + changes counted (drop (i + 1) ss) ≡ w
unfolding changes
changes_more counted ss i earlier later count one w e f a was =
    let step : changes counted (drop i ss) ≡ one + changes counted (drop (i + 1) ss) =
    ap (changes counted) (drop_got ss i earlier e ∙ ap (λ x. earlier ∷ x) (drop_got ss (i + 1) later f))
    ∙ sum_by-cons (λ (pair : Stored × Stored). cond (counts counted pair.1.value pair.0.value) 1 0) (earlier, later) (zip (later ∷ drop (i + 1 + 1) ss) (drop (i + 1 + 1) ss))
    ∙ ap (λ n. n + changes counted (later ∷ drop (i + 1 + 1) ss)) (sym a)
    ∙ ap (λ x. one + changes counted x) (sym (drop_got ss (i + 1) later f)) in
    omega (arith, step, was)

few_changes : (counted : Counted) (ss : List Stored) → length ss ≤ 1 → changes counted ss ≡ 0
unfolding changes
few_changes counted [] l = refl
few_changes counted (s ∷ []) l = refl
few_changes counted (s ∷ t ∷ ss) l = absurd (omega (arith, l))

pub changes_end : (counted : Counted) (ss : List Stored) (i count w : ℕ) → length ss - 1 ≤ i → count + changes counted (drop i ss) ≡ w → count ≡ w
changes_end counted ss i count w l was =
    let left = length-drop i ss in
    let none = few_changes counted (drop i ss) (omega (arith, left, l)) in
    omega (arith, none, was)

-- values that match
pub matching_more : (operator : Operator) (arg : List ℕ) (ss : List Stored) (i : ℕ) (s : Stored) (count one w : ℕ) → slice_get ss i ≡ Some s → one ≡ cond (matches operator arg s.value) 1 0
    → count + count_matching operator arg (drop i ss) ≡ w → count + one + count_matching operator arg (drop (i + 1) ss) ≡ w
unfolding count_matching
matching_more operator arg ss i s count one w e a was =
    let step : count_matching operator arg (drop i ss) ≡ one + count_matching operator arg (drop (i + 1) ss) =
    ap (count_matching operator arg) (drop_got ss i s e)
    ∙ sum_by-cons (λ (x : Stored). cond (matches operator arg x.value) 1 0) s (drop (i + 1) ss)
    ∙ ap (λ n. n + count_matching operator arg (drop (i + 1) ss)) (sym a) in
    omega (arith, step, was)

pub matching_end : (operator : Operator) (arg : List ℕ) (ss : List Stored) (i count w : ℕ) → length ss ≤ i → count + count_matching operator arg (drop i ss) ≡ w → count ≡ w
unfolding count_matching
matching_end operator arg ss i count w l was =
    let none : count_matching operator arg (drop i ss) ≡ 0 = ap (count_matching operator arg) (drop_all i ss l) in
    omega (arith, none, was)

pub any_found : (operator : Operator) (arg : List ℕ) (ss : List Stored) (i : ℕ) (s : Stored) (w : Bool) → slice_get ss i ≡ Some s → matches operator arg s.value ≡ true
    → any_matches operator arg (drop i ss) ≡ w → true ≡ w
unfolding any_matches
any_found operator arg ss i s w e m was = ap (λ b. b || any_matches operator arg (drop (i + 1) ss)) (sym m) ∙ ap (any_matches operator arg) (sym (drop_got ss i s e)) ∙ was

pub any_more : (operator : Operator) (arg : List ℕ) (ss : List Stored) (i : ℕ) (s : Stored) (w : Bool) → slice_get ss i ≡ Some s → matches operator arg s.value ≡ false
    → any_matches operator arg (drop i ss) ≡ w → any_matches operator arg (drop (i + 1) ss) ≡ w
unfolding any_matches
any_more operator arg ss i s w e m was = ap (λ b. b || any_matches operator arg (drop (i + 1) ss)) (sym m) ∙ ap (any_matches operator arg) (sym (drop_got ss i s e)) ∙ was

pub any_none : (operator : Operator) (arg : List ℕ) (ss : List Stored) (i : ℕ) (w : Bool) → length ss ≤ i → any_matches operator arg (drop i ss) ≡ w → false ≡ w
unfolding any_matches
any_none operator arg ss i w l was = ap (any_matches operator arg) (sym (drop_all i ss l)) ∙ was
