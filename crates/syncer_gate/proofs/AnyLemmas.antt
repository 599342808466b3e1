-- Tests of lists, and places in them.
use Rattle.std.proofs.Common.{◌≡◌, ◌∙◌, ℕ, ◌==◌, Bool, true, false, ◌||◌, ◌≤◌, ◌<◌, zero, suc, List, [], ◌∷◌, length, drop, get_or, refl, sym, ap, arith, eqb-true, eq-eqb}
use Rattle.std.specs.List.{list_any}
use Rattle.std.proofs.lemmas.List.Folds.{list_any_at}
use mathlib.Core.Path.{fun_ext}
use Rattle.zbx_types.specs.Masters.{has_id}
use Rattle.zbx_types.proofs.Truths.{isnt_true}
use Rattle.footprint.specs.Rows.{meet}

pub or_false : (a : Bool) → (a || false) ≡ a
or_false true = refl
or_false false = refl

-- two pairs of tests, joined either way
pub or_pairs : (a b c d : Bool) → ((a || b) || (c || d)) ≡ ((a || c) || (b || d))
or_pairs true b c d = refl
or_pairs false b true true = or_last b
  where
    or_last : (x : Bool) → (x || true) ≡ true
    or_last true = refl
    or_last false = refl
or_pairs false b true false = or_last b
  where
    or_last : (x : Bool) → (x || true) ≡ true
    or_last true = refl
    or_last false = refl
or_pairs false b false d = refl

pub any_never : {A : Type 0} (p : A → Bool) (xs : List A) → ((x : A) → p x ≡ false) → list_any p xs ≡ false
any_never p [] never = refl
any_never p (x ∷ xs) never = let e = never x in let r = any_never p xs never in rw (e, r) refl

pub any_alike : {A : Type 0} (p q : A → Bool) (xs : List A) → ((x : A) → p x ≡ q x) → list_any p xs ≡ list_any q xs
any_alike p q xs same = ap (λ test. list_any test xs) (fun_ext same)

pub any_either : {A : Type 0} (p q : A → Bool) (xs : List A) → list_any (λ x. p x || q x) xs ≡ (list_any p xs || list_any q xs)
any_either p q [] = refl
any_either p q (x ∷ xs) = ap (λ b. (p x || q x) || b) (any_either p q xs) ∙ or_pairs (p x) (q x) (list_any p xs) (list_any q xs)

same_either_way : (x y : ℕ) → (x == y) ≡ (y == x)
same_either_way x y = go (x == y) refl
  where
    go : (b : Bool) → (x == y) ≡ b → b ≡ (y == x)
    go true e = sym (eq-eqb y x (sym (eqb-true x y e)))
    go false e = sym (isnt_true (y == x) (λ t. let s = eq-eqb x y (sym (eqb-true y x t)) in cc))

-- the rows of two ids meet, seen from the second
pub meet_is : (xs ys : List ℕ) → list_any (has_id xs) ys ≡ meet xs ys
meet_is [] ys = any_never (λ y. false) ys (λ y. refl)
meet_is (x ∷ xs) ys =
    any_either (λ y. x == y) (has_id xs) ys
    ∙ ap (λ b. b || list_any (has_id xs) ys) (any_alike (λ y. x == y) (λ y. y == x) ys (same_either_way x))
    ∙ ap (λ b. has_id ys x || b) (meet_is xs ys)

-- rows with one id in both meet
pub meet_one : (id : ℕ) (xs ys : List ℕ) → has_id xs id ≡ true → has_id ys id ≡ true → meet xs ys ≡ true
meet_one id [] ys a b = a
meet_one id (x ∷ xs) ys a b = go (x == id) refl a (meet_one id xs ys)
  where
    go : (s : Bool) → (x == id) ≡ s → (s || has_id xs id) ≡ true → (has_id xs id ≡ true → has_id ys id ≡ true → meet xs ys ≡ true) → (has_id ys x || meet xs ys) ≡ true
    go true s z ih = let w : has_id ys x ≡ true = ap (has_id ys) (eqb-true x id s) ∙ b in rw w refl
    go false s z ih = let w : meet xs ys ≡ true = ih z b in rw w (last (has_id ys x))
      where
        last : (v : Bool) → (v || true) ≡ true
        last true = refl
        last false = refl

pub drop_past : {A : Type 0} (k : ℕ) (xs : List A) → length xs ≤ k → drop k xs ≡ []
drop_past zero [] l = refl
drop_past zero (x ∷ xs) l = absurd (omega arith)
drop_past (suc k) [] l = refl
drop_past (suc k) (x ∷ xs) l = drop_past k xs (omega arith)

pub has_at : (xs : List ℕ) (i : ℕ) → i < length xs → has_id xs (get_or xs i 0) ≡ true
has_at xs i l = list_any_at (λ x. x == get_or xs i 0) xs i 0 l (eq-eqb (get_or xs i 0) (get_or xs i 0) refl)

-- within a list the default doesn't matter
pub get_any : {A : Type 0} (xs : List A) (i : ℕ) (a b : A) → i < length xs → get_or xs i a ≡ get_or xs i b
get_any [] i a b l = absurd (omega arith)
get_any (x ∷ xs) zero a b l = refl
get_any (x ∷ xs) (suc i) a b l = get_any xs i a b (omega arith)
