-- Elements at their places.
use Rattle.std.proofs.Common.{◌≡◌, ℕ, zero, suc, ◌+◌, ◌<◌, List, [], ◌∷◌, ◌++◌, length, drop, get_or, Some, refl, ap, ◌∙◌, arith}
use Rattle.std.specs.Prelude.{codes, slice_get}
use Rattle.std.specs.Fmt.{decimal}
use Rattle.std.proofs.lemmas.List.{drop_more}
use Rattle.host_layout.specs.Places.{Placed, placed_from, placed}

-- an element of the list at a pointer, at its place
abbrev pub placed_at : {A : Type 0} → List ℕ → ℕ → A → Placed A
placed_at path place x = record { place = place; path = path ++ codes "/" ++ decimal place; body = x }

pub length-placed_from : {A : Type 0} (path : List ℕ) (place : ℕ) (xs : List A) → length (placed_from path place xs) ≡ length xs
length-placed_from path place [] = refl
length-placed_from path place (x ∷ xs) = ap (λ (n : ℕ). suc n) (length-placed_from path (place + 1) xs)

-- the element at an index
pub slice_get-placed_from : {A : Type 0} (path : List ℕ) (place : ℕ) (xs : List A) (k : ℕ) (d : A) → k < length xs → slice_get (placed_from path place xs) k ≡ Some (placed_at path (place + k) (get_or xs k d))
slice_get-placed_from path place [] k d within = absurd (let no : ⊥ = omega (arith, within) in no)
slice_get-placed_from path place (x ∷ xs) zero d within =
    let e : place ≡ place + 0 = omega arith in ap (λ n. Some (placed_at path n x)) e
slice_get-placed_from path place (x ∷ xs) (suc k) d within =
    let e : place + 1 + k ≡ place + suc k = omega arith in
    slice_get-placed_from path (place + 1) xs k d (omega (arith, within)) ∙ ap (λ n. Some (placed_at path n (get_or xs k d))) e

pub slice_get-placed : {A : Type 0} (path : List ℕ) (xs : List A) (k : ℕ) (d : A) → k < length xs → slice_get (placed path xs) k ≡ Some (placed_at path k (get_or xs k d))
slice_get-placed path xs k d within =
    let e : 0 + k ≡ k = omega arith in
    slice_get-placed_from path 0 xs k d within ∙ ap (λ n. Some (placed_at path n (get_or xs k d))) e

-- the rest from a place on, and the rest behind it
pub placed_from-more : {A : Type 0} (path : List ℕ) (xs : List A) (i : ℕ) (d : A) → i < length xs → placed_from path i (drop i xs) ≡ placed_at path i (get_or xs i d) ∷ placed_from path (i + 1) (drop (i + 1) xs)
placed_from-more path xs i d within = ap (placed_from path i) (drop_more xs i d within)
