-- Texts at their places.
use Rattle.std.proofs.Common.{◌≡◌, ℕ, ◌+◌, ◌-◌, ◌==◌, ◌<◌, List, [], ◌∷◌, ◌++◌, length, take, get_or, Some, None, All, sym, ap, ◌∙◌, subst, slice_get, arith, rules}
use Rattle.std.specs.Prelude.{position, bytes_eq}
use Rattle.std.proofs.lemmas.List.Quantifiers.{position-Some}
use Rattle.std.proofs.lemmas.Slice.Eq.{bytes_eq-Decides}
use Rattle.std.proofs.lemmas.Bool.{cond-false, ne_eqb}
use Rattle.std.proofs.lemmas.List.{take_more}
use Rattle.std.proofs.lemmas.List.Elements.{All-append}
use Rattle.std.proofs.lemmas.Option.{slice_get-get_or}
use Rattle.zbx_types.specs.Ids.{at_id}

-- the item at an index has the next number as its id
pub at_next : {A : Type 0} (xs : List A) (i : ℕ) (d : A) → i < length xs → at_id xs (i + 1) ≡ Some (get_or xs i d)
unfolding at_id
at_next xs i d within =
    let before : (i + 1) - 1 ≡ i = omega arith in
    cond-false ((i + 1) == 0) None (slice_get xs ((i + 1) - 1)) (ne_eqb (i + 1) 0 (omega arith))
    ∙ ap (slice_get xs) before ∙ slice_get-get_or xs i d within

-- one more item of a list is taken over
pub one_more : {A : Type 0} (P : A → Type 0) (made xs : List A) (i : ℕ) (x : A) → i < length xs → x ≡ get_or xs i x → P x
    → (made ≡ take i xs) × All P (take i xs) → (made ++ x ∷ [] ≡ take (i + 1) xs) × All P (take (i + 1) xs)
one_more P made xs i x within is holds so_far =
    let next : take (i + 1) xs ≡ take i xs ++ x ∷ [] = take_more xs i x within ∙ ap (λ y. take i xs ++ y ∷ []) (sym is) in
    (ap (λ ys. ys ++ x ∷ []) so_far.0 ∙ sym next, subst (All P) (sym next) (All-append P (take i xs) (x ∷ []) so_far.1 (search rules)))

-- a text stands at the place at which it is found
pub found : (text : List ℕ) (texts : List (List ℕ)) (i : ℕ) → position (λ other. bytes_eq other text) texts ≡ Some i → at_id texts (i + 1) ≡ Some text
found text texts i is =
    let at = position-Some (λ other. bytes_eq other text) texts i [] is in
    at_next texts i [] at.0 ∙ ap Some ((bytes_eq-Decides (get_or texts i []) text).0 at.1)
