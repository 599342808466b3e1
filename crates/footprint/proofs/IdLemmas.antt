-- Tests of numbers, and ids that a test tells.
use Rattle.std.proofs.Common.{◌≡◌, ◌<◌, ◌≤◌, ◌+◌, ◌∙◌, ℕ, suc, ◌==◌, Bool, true, false, cond, ◌&&◌, ◌||◌, List, [], ◌∷◌, length, filter, refl, sym, ap, arith, eqb-true, eq-eqb}
use Rattle.std.specs.Prelude.{nat_le, nat_lt}
use Rattle.std.specs.List.{list_any}
use Rattle.std.proofs.lemmas.Bool.{le-leb, lt-ltb, ltb-true, leb-true}
use Rattle.zbx_types.specs.Ids.{ids_from}
use Rattle.zbx_types.specs.Masters.{has_id}
use Rattle.zbx_types.proofs.Truths.{isnt_true}
use Rattle.footprint.specs.Rows.{those, is_one}

pub lt_no : (a b : ℕ) → b ≤ a → nat_lt a b ≡ false
lt_no a b h = isnt_true (nat_lt a b) (λ t. let l = ltb-true a b t in omega arith)

pub le_no : (a b : ℕ) → b < a → nat_le a b ≡ false
le_no a b h = isnt_true (nat_le a b) (λ t. let l = leb-true a b t in omega arith)

pub and_no : (b : Bool) → (b && false) ≡ false
and_no true = refl
and_no false = refl

pub or_no : (b : Bool) → (b || false) ≡ b
or_no true = refl
or_no false = refl

pub any_filter : (p q : ℕ → Bool) (xs : List ℕ) → list_any q (filter p xs) ≡ list_any (λ x. p x && q x) xs
any_filter p q [] = refl
any_filter p q (x ∷ xs) = go (p x) (any_filter p q xs)
  where
    go : (b : Bool) → list_any q (filter p xs) ≡ list_any (λ y. p y && q y) xs → list_any q (cond b (x ∷ filter p xs) (filter p xs)) ≡ ((b && q x) || list_any (λ y. p y && q y) xs)
    go true e = ap (λ r. q x || r) e
    go false e = e

-- tests that agree on a list's ids
pub any_from : {A : Type 0} (p q : ℕ → Bool) (k : ℕ) (all : List A) → ((x : ℕ) → k ≤ x → x < k + length all → p x ≡ q x) → list_any p (ids_from k all) ≡ list_any q (ids_from k all)
any_from p q k [] h = refl
any_from p q k (a ∷ all) h = let e = h k (omega arith) (omega arith) in let r = any_from p q (k + 1) all (λ x l u. h x (omega arith) (omega arith)) in rw (e, r) refl

pub filter_from : {A : Type 0} (p q : ℕ → Bool) (k : ℕ) (all : List A) → ((x : ℕ) → k ≤ x → x < k + length all → p x ≡ q x) → filter p (ids_from k all) ≡ filter q (ids_from k all)
filter_from p q k [] h = refl
filter_from p q k (a ∷ all) h = let e = h k (omega arith) (omega arith) in let r = filter_from p q (k + 1) all (λ x l u. h x (omega arith) (omega arith)) in rw (e, r) refl

pub one_is : {A : Type 0} (all : List A) (x : ℕ) → 1 ≤ x → x < 1 + length all → is_one all x ≡ true
one_is all x l u = let e : nat_lt 0 x ≡ true = lt-ltb 0 x (omega arith) in let f : nat_lt x (length all + 1) ≡ true = lt-ltb x (length all + 1) (omega arith) in rw (e, f) refl

pub those_same : {A : Type 0} (all : List A) (p q : ℕ → Bool) → ((x : ℕ) → is_one all x ≡ true → p x ≡ q x) → those all p ≡ those all q
those_same all p q h = filter_from p q 1 all (λ x l u. h x (one_is all x l u))

pub any_same : {A : Type 0} (all : List A) (p q : ℕ → Bool) → ((x : ℕ) → is_one all x ≡ true → p x ≡ q x) → list_any p (ids_from 1 all) ≡ list_any q (ids_from 1 all)
any_same all p q h = any_from p q 1 all (λ x l u. h x (one_is all x l u))

pub any_those : {A : Type 0} (all : List A) (r p q : ℕ → Bool) → ((x : ℕ) → is_one all x ≡ true → p x ≡ q x) → list_any p (those all r) ≡ list_any q (those all r)
any_those all r p q h = any_filter r p (ids_from 1 all) ∙ any_same all (λ x. r x && p x) (λ x. r x && q x) (λ x one. ap (λ b. r x && b) (h x one)) ∙ sym (any_filter r q (ids_from 1 all))

-- what is among those that a test tells
one_from : {A : Type 0} (p : ℕ → Bool) (k x : ℕ) (all : List A) → list_any (λ y. p y && (y == x)) (ids_from k all) ≡ ((nat_le k x && nat_lt x (k + length all)) && p x)
one_from p k x [] = go (nat_le k x) refl
  where
    go : (b : Bool) → nat_le k x ≡ b → false ≡ ((b && nat_lt x (k + 0)) && p x)
    go true e = let n : nat_lt x (k + 0) ≡ false = lt_no x (k + 0) (let l = leb-true k x e in omega arith) in rw n refl
    go false e = refl
one_from p k x (a ∷ all) = go (nat_lt k x) (k == x) refl refl (one_from p (k + 1) x all)
  where
    same : nat_lt x (k + suc (length all)) ≡ nat_lt x (k + 1 + length all)
    same = ap (λ n. nat_lt x n) (let z : k + suc (length all) ≡ k + 1 + length all = omega arith in z)

    go : (b c : Bool) → nat_lt k x ≡ b → (k == x) ≡ c → list_any (λ y. p y && (y == x)) (ids_from (k + 1) all) ≡ ((nat_le (k + 1) x && nat_lt x (k + 1 + length all)) && p x)
        → ((p k && c) || list_any (λ y. p y && (y == x)) (ids_from (k + 1) all)) ≡ ((nat_le k x && nat_lt x (k + suc (length all))) && p x)
    go true true e f ih = let l = ltb-true k x e in let q = eqb-true k x f in absurd (omega arith)
    go true false e f ih =
        let l = ltb-true k x e in
        let a : nat_le (k + 1) x ≡ true = le-leb (k + 1) x (omega arith) in
        let b : nat_le k x ≡ true = le-leb k x (omega arith) in
        rw (and_no (p k), ih, same, a, b) refl
    go false true e f ih =
        let q : k ≡ x = eqb-true k x f in
        let a : nat_le (k + 1) x ≡ false = le_no (k + 1) x (omega arith) in
        let b : nat_le k x ≡ true = le-leb k x (omega arith) in
        let d : nat_lt x (k + suc (length all)) ≡ true = lt-ltb x (k + suc (length all)) (omega arith) in
        rw (ih, a, b, d) (last (p k) ∙ ap p q)
      where
        last : (t : Bool) → ((t && true) || false) ≡ t
        last true = refl
        last false = refl
    go false false e f ih =
        let a : nat_le (k + 1) x ≡ false = le_no (k + 1) x (omega (arith, below)) in
        let b : nat_le k x ≡ false = le_no k x below in
        rw (and_no (p k), ih, a, b) refl
      where
        below : x < k
        below = split (nat_le k x) refl
          where
            split : (t : Bool) → nat_le k x ≡ t → x < k
            split true t = let l = leb-true k x t in absurd (apart l)
              where
                apart : k ≤ x → ⊥
                apart l = let n : (k ≡ x → ⊥) = (λ z. let y = eq-eqb k x z in cc) in let m : (k < x → ⊥) = (λ z. let y = lt-ltb k x z in cc) in omega arith
            split false t = let n : (k ≤ x → ⊥) = (λ z. let y = le-leb k x z in cc) in omega arith

pub has_those : {A : Type 0} (all : List A) (p : ℕ → Bool) (x : ℕ) → has_id (those all p) x ≡ (is_one all x && p x)
has_those all p x = any_filter p (λ y. y == x) (ids_from 1 all) ∙ one_from p 1 x all ∙ ap (λ b. b && p x) (bounds)
  where
    bounds : (nat_le 1 x && nat_lt x (1 + length all)) ≡ is_one all x
    bounds = let e : 1 + length all ≡ length all + 1 = omega arith in ap (λ n. nat_lt 0 x && nat_lt x n) e

pub those_none : {A : Type 0} (k : ℕ) (all : List A) → filter (λ x. false) (ids_from k all) ≡ []
those_none k [] = refl
those_none k (a ∷ all) = those_none (k + 1) all
