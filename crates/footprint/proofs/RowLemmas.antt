-- Rows.
use Rattle.std.proofs.Common.{◌≡◌, ◌<◌, ◌≤◌, ◌+◌, ◌∙◌, ℕ, zero, suc, ◌==◌, Bool, true, false, ◌&&◌, ◌||◌, List, [], ◌∷◌, ◌++◌, length, get_or, set, map, refl, sym, ap, arith, eqb-true, eq-eqb}
use Rattle.std.specs.Prelude.{nat_lt, replicate}
use Rattle.std.proofs.lemmas.List.Folds.{list_any-append}
use Rattle.std.proofs.lemmas.Bool.{lt-ltb, ltb-true}
use Rattle.zbx_types.specs.Masters.{has_id}
use Rattle.footprint.specs.Rows.{row_at, those, is_in, is_one, IsNoted, IsTurned}
use Rattle.footprint.proofs.IdLemmas.{lt_no, and_no, or_no, those_same, those_none}

row_none : (n id : ℕ) → row_at (replicate n []) id ≡ []
row_none zero id = refl
row_none (suc n) zero = refl
row_none (suc n) (suc id) = row_none n id

row_here : (rows : List (List ℕ)) (p : ℕ) (os : List ℕ) → p < length rows → row_at (set rows p os) p ≡ os
row_here [] p os h = absurd (omega arith)
row_here (r ∷ rows) zero os h = refl
row_here (r ∷ rows) (suc p) os h = row_here rows p os (omega arith)

row_other : (rows : List (List ℕ)) (p id : ℕ) (os : List ℕ) → (p == id) ≡ false → row_at (set rows p os) id ≡ row_at rows id
row_other [] p id os e = refl
row_other (r ∷ rows) zero zero os e = let t = eq-eqb 0 0 refl in cc
row_other (r ∷ rows) zero (suc id) os e = refl
row_other (r ∷ rows) (suc p) zero os e = refl
row_other (r ∷ rows) (suc p) (suc id) os e = row_other rows p id os (differ (p == id) refl)
  where
    differ : (b : Bool) → (p == id) ≡ b → (p == id) ≡ false
    differ true t = let q = ap suc (eqb-true p id t) in let u = eq-eqb (suc p) (suc id) q in cc
    differ false t = t

row_get : (rows : List (List ℕ)) (p : ℕ) (d : List ℕ) → p < length rows → get_or rows p d ≡ row_at rows p
row_get [] p d h = absurd (omega arith)
row_get (r ∷ rows) zero d h = refl
row_get (r ∷ rows) (suc p) d h = row_get rows p d (omega arith)

pub row_noted : (rows : List (List ℕ)) (p one : ℕ) (before made : List ℕ) → 0 < p → p < length rows → before ≡ get_or rows p before → made ≡ before ++ one ∷ [] → IsNoted rows (p ∷ []) one (set rows p made)
row_noted rows p one before made some h at e id x = go (p == id) refl
  where
    grown : made ≡ row_at rows p ++ one ∷ []
    grown = e ∙ ap (λ r. r ++ one ∷ []) (at ∙ row_get rows p before h)

    go : (b : Bool) → (p == id) ≡ b → has_id (row_at (set rows p made) id) x ≡ (has_id (row_at rows id) x || (is_in (length rows) id && ((b || false) && (one == x))))
    go true q =
        let same : p ≡ id = eqb-true p id q in
        let a : nat_lt 0 id ≡ true = lt-ltb 0 id (omega arith) in
        let l : nat_lt id (length rows) ≡ true = lt-ltb id (length rows) (omega arith) in
        let row : row_at (set rows p made) id ≡ row_at rows id ++ one ∷ [] = ap (λ i. row_at (set rows p made) i) (sym same) ∙ row_here rows p made h ∙ grown ∙ ap (λ i. row_at rows i ++ one ∷ []) same in
        ap (λ r. has_id r x) row ∙ list_any-append (λ y. y == x) (row_at rows id) (one ∷ []) ∙ rw (a, l) (ap (λ b. has_id (row_at rows id) x || b) (or_no (one == x)))
    go false q = ap (λ r. has_id r x) (row_other rows p id made q) ∙ sym (ap (λ b. has_id (row_at rows id) x || b) (and_no (is_in (length rows) id)) ∙ or_no (has_id (row_at rows id) x))

both_noted : (h i f g e : Bool) → ((h || (i && (f && e))) || (i && ((g || false) && e))) ≡ (h || (i && ((f || (g || false)) && e)))
both_noted true i f g e = refl
both_noted false false f g e = refl
both_noted false true false g e = refl
both_noted false true true g false = and_no (g || false)
both_noted false true true g true = refl

pub noted_more : (before rows made : List (List ℕ)) (ids : List ℕ) (id one : ℕ) → length rows ≡ length before → IsNoted before ids one rows → IsNoted rows (id ∷ []) one made → IsNoted before (ids ++ id ∷ []) one made
noted_more before rows made ids id one size first next place x =
    next place x
    ∙ ap (λ n. has_id (row_at rows place) x || (is_in n place && (((id == place) || false) && (one == x)))) size
    ∙ ap (λ b. b || (is_in (length before) place && (((id == place) || false) && (one == x)))) (first place x)
    ∙ both_noted (has_id (row_at before place) x) (is_in (length before) place) (has_id ids place) (id == place) (one == x)
    ∙ ap (λ b. has_id (row_at before place) x || (is_in (length before) place && (b && (one == x)))) (sym (list_any-append (λ y. y == place) ids (id ∷ [])))

pub noted_none : (rows : List (List ℕ)) (one : ℕ) → IsNoted rows [] one rows
noted_none rows one id x = sym (ap (λ b. has_id (row_at rows id) x || b) (and_no (is_in (length rows) id)) ∙ or_no (has_id (row_at rows id) x))

pub turned_none : (count : ℕ) (rows : List (List ℕ)) → IsTurned count 0 rows (replicate count [])
turned_none count rows id x =
    let n : nat_lt x 0 ≡ false = lt_no x 0 (omega arith) in
    ap (λ r. has_id r x) (row_none count id) ∙ sym (ap (λ b. is_in count id && (b && has_id (row_at rows x) id)) n ∙ and_no (is_in count id))

pub turned_more : (count known : ℕ) (rows before made : List (List ℕ)) (row : List ℕ) → length before ≡ count → row ≡ row_at rows known → IsTurned count known rows before → IsNoted before row known made → IsTurned count (known + 1) rows made
turned_more count known rows before made row size at first next id x =
    next id x
    ∙ ap (λ n. has_id (row_at before id) x || (is_in n id && (has_id row id && (known == x)))) size
    ∙ ap (λ b. b || (is_in count id && (has_id row id && (known == x)))) (first id x)
    ∙ ap (λ r. (is_in count id && (nat_lt x known && has_id (row_at rows x) id)) || (is_in count id && (has_id r id && (known == x)))) at
    ∙ go (known == x) (nat_lt x known) refl refl
  where
    go : (b c : Bool) → (known == x) ≡ b → nat_lt x known ≡ c → ((is_in count id && (c && has_id (row_at rows x) id)) || (is_in count id && (has_id (row_at rows known) id && b))) ≡ (is_in count id && (nat_lt x (known + 1) && has_id (row_at rows x) id))
    go true true q l = let a = eqb-true known x q in let b = ltb-true x known l in absurd (omega arith)
    go true false q l =
        let a : known ≡ x = eqb-true known x q in
        let up : nat_lt x (known + 1) ≡ true = lt-ltb x (known + 1) (omega arith) in
        let r : has_id (row_at rows known) id ≡ has_id (row_at rows x) id = ap (λ k. has_id (row_at rows k) id) a in
        rw (up, r) (ends (is_in count id) (has_id (row_at rows x) id))
      where
        ends : (i h : Bool) → ((i && false) || (i && (h && true))) ≡ (i && h)
        ends true true = refl
        ends true false = refl
        ends false h = refl
    go false true q l =
        let b = ltb-true x known l in
        let up : nat_lt x (known + 1) ≡ true = lt-ltb x (known + 1) (omega arith) in
        rw up (ends (is_in count id) (has_id (row_at rows x) id) (has_id (row_at rows known) id))
      where
        ends : (i h g : Bool) → ((i && h) || (i && (g && false))) ≡ (i && h)
        ends true true g = refl
        ends true false true = refl
        ends true false false = refl
        ends false h g = refl
    go false false q l =
        let up : nat_lt x (known + 1) ≡ false = lt_no x (known + 1) (split (nat_lt known x) refl) in
        rw up (ends (is_in count id) (has_id (row_at rows known) id))
      where
        ends : (i g : Bool) → ((i && false) || (i && (g && false))) ≡ (i && false)
        ends true true = refl
        ends true false = refl
        ends false g = refl

        split : (t : Bool) → nat_lt known x ≡ t → known + 1 ≤ x
        split true t = let z = ltb-true known x t in omega arith
        split false t =
            let n : (known ≡ x → ⊥) = (λ z. let y = eq-eqb known x z in cc) in
            let m : (x < known → ⊥) = (λ z. let y = lt-ltb x known z in cc) in
            let o : (known < x → ⊥) = (λ z. let y = lt-ltb known x z in cc) in
            absurd (omega arith)

pub row_map : (g : List ℕ → List ℕ) → g [] ≡ [] → (rows : List (List ℕ)) (id : ℕ) → row_at (map g rows) id ≡ g (row_at rows id)
row_map g e [] id = sym e
row_map g e (r ∷ rows) zero = refl
row_map g e (r ∷ rows) (suc id) = row_map g e rows id

known_one : (x n : ℕ) → is_in n x ≡ true → nat_lt x n ≡ true
known_one x n e = go (nat_lt 0 x) (nat_lt x n) e
  where
    go : (a b : Bool) → (a && b) ≡ true → b ≡ true
    go true b e = e
    go false b e = cc

pub inverse_is : {A B : Type 0} (all : List A) (from : List B) (rows turned : List (List ℕ)) (count : ℕ) → length rows ≡ length from + 1 → count ≡ length all + 1 → IsTurned count (length rows) rows turned
    → (id : ℕ) → row_at (map (λ row. those from (has_id row)) turned) id ≡ those from (λ one. is_one all id && has_id (row_at rows one) id)
inverse_is all from rows turned count size counted told id =
    row_map (λ row. those from (has_id row)) (those_none 1 from) turned id
    ∙ those_same from (has_id (row_at turned id)) (λ one. is_one all id && has_id (row_at rows one) id) (λ one is.
    let l : nat_lt one (length rows) ≡ true = ap (λ n. nat_lt one n) size ∙ known_one one (length from + 1) is in
    told id one ∙ ap (λ b. is_in count id && (b && has_id (row_at rows one) id)) l ∙ ap (λ n. is_in n id && has_id (row_at rows one) id) counted)

row_past : (rows : List (List ℕ)) (id : ℕ) → length rows ≤ id → row_at rows id ≡ []
row_past [] id h = refl
row_past (r ∷ rows) zero h = absurd (omega arith)
row_past (r ∷ rows) (suc id) h = row_past rows id (omega arith)

row_before : (rows : List (List ℕ)) (row : List ℕ) (id : ℕ) → id < length rows → row_at (rows ++ row ∷ []) id ≡ row_at rows id
row_before [] row id h = absurd (omega arith)
row_before (r ∷ rows) row zero h = refl
row_before (r ∷ rows) row (suc id) h = row_before rows row id (omega arith)

row_behind : (rows : List (List ℕ)) (row : List ℕ) → row_at (rows ++ row ∷ []) (length rows) ≡ row
row_behind [] row = refl
row_behind (r ∷ rows) row = row_behind rows row

pub united_row : {A : Type 0} (all : List A) (first second made next : List (List ℕ)) (row : List ℕ) (place : ℕ) → length made ≡ place → next ≡ made ++ row ∷ [] → row ≡ those all (has_id (row_at first place ++ row_at second place))
    → ((id : ℕ) → id < place → row_at made id ≡ those all (has_id (row_at first id ++ row_at second id)))
    → (id : ℕ) → id < place + 1 → row_at next id ≡ those all (has_id (row_at first id ++ row_at second id))
united_row all first second made next row place size pushed is known id below = ap (λ rows. row_at rows id) pushed ∙ go (id == place) refl
  where
    go : (b : Bool) → (id == place) ≡ b → row_at (made ++ row ∷ []) id ≡ those all (has_id (row_at first id ++ row_at second id))
    go true q =
        let e : id ≡ length made = eqb-true id place q ∙ sym size in
        let f : place ≡ id = sym (eqb-true id place q) in
        ap (λ k. row_at (made ++ row ∷ []) k) e ∙ row_behind made row ∙ is ∙ ap (λ k. those all (has_id (row_at first k ++ row_at second k))) f
    go false q =
        let n : (id ≡ place → ⊥) = (λ z. let y = eq-eqb id place z in cc) in
        row_before made row id (omega arith) ∙ known id (omega arith)

pub united_past : {A : Type 0} (all : List A) (first second made : List (List ℕ)) (place : ℕ) → length second ≡ length first → place ≡ length first → length made ≡ place
    → ((id : ℕ) → id < place → row_at made id ≡ those all (has_id (row_at first id ++ row_at second id)))
    → (id : ℕ) → row_at made id ≡ those all (has_id (row_at first id ++ row_at second id))
united_past all first second made place same at size known id = go (nat_lt id place) refl
  where
    go : (b : Bool) → nat_lt id place ≡ b → row_at made id ≡ those all (has_id (row_at first id ++ row_at second id))
    go true q = known id (ltb-true id place q)
    go false q =
        let n : (id < place → ⊥) = (λ z. let y = lt-ltb id place z in cc) in
        let a : row_at first id ≡ [] = row_past first id (omega arith) in
        let b : row_at second id ≡ [] = row_past second id (omega arith) in
        row_past made id (omega arith) ∙ sym (ap (λ xs. those all (has_id (xs ++ row_at second id))) a ∙ ap (λ xs. those all (has_id xs)) b ∙ those_none 1 all)
