-- The walk over two rising rows.
use Rattle.std.proofs.Common.{◌≡◌, ◌<◌, ◌≤◌, ◌∙◌, ℕ, ◌==◌, Bool, true, false, cond, ◌&&◌, ◌||◌, List, [], ◌∷◌, refl, sym, ap, arith, eqb-true, ne_eqb}
use Rattle.std.specs.Prelude.{nat_lt}
use Rattle.std.specs.List.{list_all}
use Rattle.std.proofs.lemmas.Bool.{lt-ltb, ltb-true}
use Rattle.zbx_types.specs.Masters.{has_id}
use Rattle.footprint.specs.Rows.{meet, rises, from_id, begins, walk_meets}

and_first : (a b : Bool) → (a && b) ≡ true → a ≡ true
and_first true b e = refl
and_first false b e = cc

and_second : (a b : Bool) → (a && b) ≡ true → b ≡ true
and_second true b e = e
and_second false b e = cc

-- ids at or above one see the same in what is left
seen : (x z : ℕ) (ys : List ℕ) → x ≤ z → has_id ys z ≡ has_id (from_id x ys) z
seen x z [] l = refl
seen x z (y ∷ ys) l = go (nat_lt y x) refl (seen x z ys l)
  where
    go : (b : Bool) → nat_lt y x ≡ b → has_id ys z ≡ has_id (from_id x ys) z → ((y == z) || has_id ys z) ≡ has_id (cond b (from_id x ys) (y ∷ ys)) z
    go true e ih = let a = ltb-true y x e in let o : (y == z) ≡ false = ne_eqb y z (λ q. absurd (omega arith)) in rw o ih
    go false e ih = refl

rises_left : (x : ℕ) (ys : List ℕ) → rises ys ≡ true → rises (from_id x ys) ≡ true
rises_left x [] h = refl
rises_left x (y ∷ ys) h = go (nat_lt y x) (rises_left x ys (and_second (list_all (λ z. nat_lt y z) ys) (rises ys) h))
  where
    go : (b : Bool) → rises (from_id x ys) ≡ true → rises (cond b (from_id x ys) (y ∷ ys)) ≡ true
    go true ih = ih
    go false ih = h

none_low : (y x : ℕ) (ys : List ℕ) → x ≤ y → list_all (λ z. nat_lt y z) ys ≡ true → has_id ys x ≡ false
none_low y x [] l h = refl
none_low y x (z ∷ zs) l h =
    let a = ltb-true y z (and_first (nat_lt y z) (list_all (λ w. nat_lt y w) zs) h) in
    let o : (z == x) ≡ false = ne_eqb z x (λ q. absurd (omega arith)) in
    rw o (none_low y x zs l (and_second (nat_lt y z) (list_all (λ w. nat_lt y w) zs) h))

-- the id itself is where what is left begins
begin_is : (x : ℕ) (ys : List ℕ) → rises ys ≡ true → begins x (from_id x ys) ≡ has_id ys x
begin_is x [] h = refl
begin_is x (y ∷ ys) h = go (nat_lt y x) refl (y == x) refl (begin_is x ys (and_second (list_all (λ z. nat_lt y z) ys) (rises ys) h))
  where
    go : (b : Bool) → nat_lt y x ≡ b → (c : Bool) → (y == x) ≡ c → begins x (from_id x ys) ≡ has_id ys x → begins x (cond b (from_id x ys) (y ∷ ys)) ≡ (c || has_id ys x)
    go true e true f ih = let a = ltb-true y x e in let q = eqb-true y x f in absurd (omega arith)
    go true e false f ih = ih
    go false e true f ih = f
    go false e false f ih =
        let n : (y < x → ⊥) = (λ z. let t = lt-ltb y x z in cc) in
        f ∙ sym (none_low y x ys (omega arith) (and_first (list_all (λ z. nat_lt y z) ys) (rises ys) h))

meet_left : (x : ℕ) (xs ys : List ℕ) → list_all (λ z. nat_lt x z) xs ≡ true → meet xs ys ≡ meet xs (from_id x ys)
meet_left x [] ys h = refl
meet_left x (z ∷ zs) ys h =
    let a = ltb-true x z (and_first (nat_lt x z) (list_all (λ w. nat_lt x w) zs) h) in
    let e = seen x z ys (omega arith) in
    rw e (ap (λ b. has_id (from_id x ys) z || b) (meet_left x zs ys (and_second (nat_lt x z) (list_all (λ w. nat_lt x w) zs) h)))

pub walk_is : (xs ys : List ℕ) → rises xs ≡ true → rises ys ≡ true → walk_meets xs ys ≡ meet xs ys
walk_is [] ys g h = refl
walk_is (x ∷ xs) ys g h =
    let above = and_first (list_all (λ z. nat_lt x z) xs) (rises xs) g in
    let tail = and_second (list_all (λ z. nat_lt x z) xs) (rises xs) g in
    ap (λ b. b || walk_meets xs (from_id x ys)) (begin_is x ys h)
    ∙ ap (λ b. has_id ys x || b) (walk_is xs (from_id x ys) tail (rises_left x ys h) ∙ sym (meet_left x xs ys above))
