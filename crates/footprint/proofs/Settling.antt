-- Found ids, sorted, and those of a list among them.
use Rattle.std.proofs.Common.{◌≡◌, ◌<◌, ◌≤◌, ◌+◌, ◌∙◌, ℕ, suc, ◌==◌, Bool, true, false, cond, ◌&&◌, ◌||◌, List, [], ◌∷◌, length, get_or, filter, refl, sym, ap, arith, eqb-true, eq-eqb, ne_eqb}
use Rattle.std.specs.Prelude.{nat_le, nat_lt}
use Rattle.std.specs.Ordering.{nat_cmp}
use Rattle.std.specs.List.{list_any, list_all, flat_map}
use Rattle.std.specs.List.Sorted.{IsPermutation, IsSorted, IsNonDecreasing}
use Rattle.std.proofs.lemmas.List.Sorted.{list_any-IsPermutation, IsNonDecreasingBy-from_sort}
use Rattle.std.proofs.lemmas.List.Folds.{list_any-append}
use Rattle.std.proofs.lemmas.Bool.{le-leb, lt-ltb, ltb-true, leb-true}
use Rattle.zbx_types.specs.Ids.{ids_from}
use Rattle.zbx_types.specs.Masters.{has_id}
use Rattle.footprint.specs.Rows.{row_at, those, risen, held_by}
use Rattle.footprint.proofs.IdLemmas.{lt_no, those_same, filter_from}

-- each id is at most those behind it
abbrev asc : List ℕ → Bool
asc [] = true
asc (x ∷ xs) = list_all (λ y. nat_le x y) xs && asc xs

and_first : (a b : Bool) → (a && b) ≡ true → a ≡ true
and_first true b e = refl
and_first false b e = cc

and_second : (a b : Bool) → (a && b) ≡ true → b ≡ true
and_second true b e = e
and_second false b e = cc

all_from : (x : ℕ) (xs : List ℕ) → ((k : ℕ) → k < length xs → x ≤ get_or xs k 0) → list_all (λ y. nat_le x y) xs ≡ true
all_from x [] h = refl
all_from x (y ∷ ys) h = let e : nat_le x y ≡ true = le-leb x y (h 0 (omega arith)) in rw e (all_from x ys (λ k l. h (suc k) (omega arith)))

asc_from : (xs : List ℕ) → IsNonDecreasing xs → asc xs ≡ true
asc_from [] h = refl
asc_from (x ∷ xs) h =
    let e = all_from x xs (λ k l. h 0 (suc k) 0 (omega arith) (omega arith)) in
    rw e (asc_from xs (λ i j d a b. h (suc i) (suc j) d (omega arith) (omega arith)))

-- an id below an ascending list's first isn't in it
low : (x y : ℕ) (xs : List ℕ) → y < x → list_all (λ z. nat_le x z) xs ≡ true → has_id xs y ≡ false
low x y [] l h = refl
low x y (z ∷ zs) l h =
    let a = leb-true x z (and_first (nat_le x z) (list_all (λ w. nat_le x w) zs) h) in
    let e : (z == y) ≡ false = ne_eqb z y (λ q. absurd (omega arith)) in
    rw e (low x y zs l (and_second (nat_le x z) (list_all (λ w. nat_le x w) zs) h))

low_all : (x y : ℕ) (xs : List ℕ) → y < x → list_all (λ z. nat_le x z) xs ≡ true → has_id (x ∷ xs) y ≡ false
low_all x y xs l h = let e : (x == y) ≡ false = ne_eqb x y (λ q. absurd (omega arith)) in rw e (low x y xs l h)

risen_head : (size last x : ℕ) (xs : List ℕ) (b c : Bool) → nat_lt last x ≡ b → nat_le x size ≡ c → risen size last (x ∷ xs) ≡ cond (b && c) (x ∷ risen size x xs) (risen size last xs)
risen_head size last x xs b c e f = rw (e, f) refl

risen_done : (size : ℕ) (xs : List ℕ) → risen size size xs ≡ []
risen_done size [] = refl
risen_done size (x ∷ xs) = go (nat_lt size x) (nat_le x size) refl refl (risen_done size xs)
  where
    go : (b c : Bool) → nat_lt size x ≡ b → nat_le x size ≡ c → risen size size xs ≡ [] → risen size size (x ∷ xs) ≡ []
    go true true e f ih = let l = ltb-true size x e in let m = leb-true x size f in absurd (omega arith)
    go true false e f ih = risen_head size size x xs true false e f ∙ ih
    go false c e f ih = risen_head size size x xs false c e f ∙ ih

risen_skip : (size last next : ℕ) (xs : List ℕ) → last ≤ next → list_all (λ z. nat_lt next z) xs ≡ true → risen size last xs ≡ risen size next xs
risen_skip size last next [] l h = refl
risen_skip size last next (x ∷ xs) l h = go (nat_le x size) refl (risen_skip size last next xs l (and_second (nat_lt next x) (list_all (λ z. nat_lt next z) xs) h))
  where
    above : next < x
    above = ltb-true next x (and_first (nat_lt next x) (list_all (λ z. nat_lt next z) xs) h)

    go : (c : Bool) → nat_le x size ≡ c → risen size last xs ≡ risen size next xs → risen size last (x ∷ xs) ≡ risen size next (x ∷ xs)
    go true f ih = risen_head size last x xs true true (lt-ltb last x (omega (arith, above))) f ∙ sym (risen_head size next x xs true true (lt-ltb next x above) f)
    go false f ih =
        risen_head size last x xs true false (lt-ltb last x (omega (arith, above))) f
        ∙ ih
        ∙ sym (risen_head size next x xs true false (lt-ltb next x above) f)

all_above : (n x : ℕ) (xs : List ℕ) → n < x → list_all (λ z. nat_le x z) xs ≡ true → list_all (λ z. nat_lt n z) xs ≡ true
all_above n x [] l h = refl
all_above n x (y ∷ ys) l h =
    let a = leb-true x y (and_first (nat_le x y) (list_all (λ z. nat_le x z) ys) h) in
    let e : nat_lt n y ≡ true = lt-ltb n y (omega arith) in
    rw e (all_above n x ys l (and_second (nat_le x y) (list_all (λ z. nat_le x z) ys) h))

-- one id more, before the ids that come behind it
abbrev Rest : {A : Type 0} → List A → ℕ → ℕ → Type 0
Rest all size last = (ys : List ℕ) → asc ys ≡ true → risen size (last + 1) ys ≡ filter (has_id ys) (ids_from (last + 1 + 1) all)

abbrev headed : {A : Type 0} → List A → ℕ → List ℕ → List ℕ
headed all last ys = cond (has_id ys (last + 1)) ((last + 1) ∷ filter (has_id ys) (ids_from (last + 1 + 1) all)) (filter (has_id ys) (ids_from (last + 1 + 1) all))

walk : {A : Type 0} (all : List A) (size last : ℕ) → last + 1 ≤ size → Rest all size last → (ys : List ℕ) → asc ys ≡ true → risen size last ys ≡ headed all last ys
walk all size last q rest [] g = rest [] refl
walk all size last q rest (x ∷ ys) g = go (nat_lt last x) (x == (last + 1)) refl refl (walk all size last q rest ys (and_second (list_all (λ z. nat_le x z) ys) (asc ys) g))
  where
    behind : list_all (λ z. nat_le x z) ys ≡ true
    behind = and_first (list_all (λ z. nat_le x z) ys) (asc ys) g

    go : (b c : Bool) → nat_lt last x ≡ b → (x == (last + 1)) ≡ c → risen size last ys ≡ headed all last ys → risen size last (x ∷ ys) ≡ headed all last (x ∷ ys)
    go false c e f ih =
        let below : (last < x → ⊥) = (λ z. let t = lt-ltb last x z in cc) in
        let no : (n : ℕ) → last + 1 ≤ n → has_id (x ∷ ys) n ≡ has_id ys n = (λ n l. let o : (x == n) ≡ false = ne_eqb x n (λ z. absurd (omega arith)) in rw o refl) in
        let same : filter (has_id (x ∷ ys)) (ids_from (last + 1 + 1) all) ≡ filter (has_id ys) (ids_from (last + 1 + 1) all) = filter_from (has_id (x ∷ ys)) (has_id ys) (last + 1 + 1) all (λ n l u. no n (omega arith)) in
        let here : has_id (x ∷ ys) (last + 1) ≡ has_id ys (last + 1) = no (last + 1) (omega arith) in
        risen_head size last x ys false (nat_le x size) e refl ∙ ih
        ∙ sym (ap (λ b. cond b ((last + 1) ∷ filter (has_id (x ∷ ys)) (ids_from (last + 1 + 1) all)) (filter (has_id (x ∷ ys)) (ids_from (last + 1 + 1) all))) here
        ∙ ap (λ r. cond (has_id ys (last + 1)) ((last + 1) ∷ r) r) same)
    go true true e f ih =
        let at : x ≡ last + 1 = eqb-true x (last + 1) f in
        let fits : nat_le x size ≡ true = le-leb x size (omega arith) in
        let again : nat_lt (last + 1) x ≡ false = lt_no (last + 1) x (omega arith) in
        risen_head size last x ys true true e fits
        ∙ ap (λ n. n ∷ risen size n ys) at
        ∙ ap (λ r. (last + 1) ∷ r) (sym (risen_head size (last + 1) x ys false (nat_le x size) again refl) ∙ rest (x ∷ ys) g)
        ∙ sym (ap (λ b. cond (b || has_id ys (last + 1)) ((last + 1) ∷ filter (has_id (x ∷ ys)) (ids_from (last + 1 + 1) all)) (filter (has_id (x ∷ ys)) (ids_from (last + 1 + 1) all))) f)
    go true false e f ih =
        let l = ltb-true last x e in
        let n : (x ≡ last + 1 → ⊥) = (λ z. let t = eq-eqb x (last + 1) z in cc) in
        let up : last + 1 < x = omega arith in
        let first : nat_lt (last + 1) x ≡ true = lt-ltb (last + 1) x up in
        let skipped : list_all (λ z. nat_lt (last + 1) z) (x ∷ ys) ≡ true = rw first (all_above (last + 1) x ys up behind) in
        let none : has_id (x ∷ ys) (last + 1) ≡ false = low_all x (last + 1) ys up behind in
        risen_skip size last (last + 1) (x ∷ ys) (omega arith) skipped ∙ rest (x ∷ ys) g
        ∙ sym (ap (λ b. cond b ((last + 1) ∷ filter (has_id (x ∷ ys)) (ids_from (last + 1 + 1) all)) (filter (has_id (x ∷ ys)) (ids_from (last + 1 + 1) all))) none)

risen_those : {A : Type 0} (all : List A) (size last : ℕ) → last + length all ≡ size → (xs : List ℕ) → asc xs ≡ true → risen size last xs ≡ filter (has_id xs) (ids_from (last + 1) all)
risen_those [] size last q xs h = let e : last ≡ size = omega arith in ap (λ n. risen size n xs) e ∙ risen_done size xs
risen_those (a ∷ all) size last q xs h = walk all size last (omega arith) (λ ys g. risen_those all size (last + 1) (omega arith) ys g) xs h

pub settled_is : {A : Type 0} (all : List A) (found ids : List ℕ) → IsPermutation found ids → IsSorted nat_cmp ids → risen (length all) 0 ids ≡ those all (has_id found)
settled_is all found ids same sorted =
    risen_those all (length all) 0 (let z : 0 + length all ≡ length all = omega arith in z) ids (asc_from ids (IsNonDecreasingBy-from_sort (λ x. x) ids sorted))
    ∙ those_same all (has_id ids) (has_id found) (λ x one. sym (list_any-IsPermutation (λ y. y == x) found ids same))

any_flat : (f : ℕ → List ℕ) (x : ℕ) (ids : List ℕ) → has_id (flat_map f ids) x ≡ list_any (λ id. has_id (f id) x) ids
any_flat f x [] = refl
any_flat f x (id ∷ ids) = list_any-append (λ y. y == x) (f id) (flat_map f ids) ∙ ap (λ b. has_id (f id) x || b) (any_flat f x ids)

pub gathered_is : {A : Type 0} (all : List A) (table : List (List ℕ)) (ids found : List ℕ) → found ≡ flat_map (row_at table) ids → those all (has_id found) ≡ held_by all table ids
unfolding held_by
gathered_is all table ids found e = those_same all (has_id found) (λ x. list_any (λ id. has_id (row_at table id) x) ids) (λ x one. ap (λ xs. has_id xs x) e ∙ any_flat (row_at table) x ids)
