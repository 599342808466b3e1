-- The first of a name, with one thing more.
use Rattle.std.proofs.Common.{◌≡◌, ℕ, ◌+◌, ◌<◌, ◌≤◌, Bool, true, false, cond, not, List, [], ◌∷◌, ◌++◌, length, take, get_or, Option, sym, ◌∙◌, ap, arith, length-append}
use Rattle.std.specs.Prelude.{position}
use Rattle.std.specs.List.{position_or_len}
use Rattle.std.proofs.lemmas.Bool.Decides.{nat_tests}
use Rattle.std.proofs.lemmas.List.{take_more, length-take-le}
use Rattle.std.proofs.lemmas.List.Folds.{position_or_len_push}
use Rattle.host_layout.specs.Tables.{noted}

within : {A : Type 0} (p : A → Bool) (xs : List A) → position_or_len p xs ≤ length xs
within p [] = omega arith
within p (x ∷ xs) = go (p x) (within p xs)
  where
    go : (b : Bool) → position_or_len p xs ≤ length xs → cond (not b) (1 + position_or_len p xs) 0 ≤ length (x ∷ xs)
    go true h = omega arith
    go false h = omega arith

position_push : {A : Type 0} (p : A → Bool) (xs : List A) (x : A) → position p (xs ++ x ∷ []) ≡ noted (position p xs) (p x) (length xs)
position_push p xs x = let w = within p xs in grind (arith, nat_tests, position_or_len_push p xs x, length-append xs (x ∷ []))

-- one thing more is looked at
pub position_more : {A : Type 0} (p : A → Bool) (xs : List A) (i : ℕ) (x : A) (before after : Option ℕ) → i < length xs → x ≡ get_or xs i x → before ≡ position p (take i xs) → after ≡ noted before (p x) i
    → after ≡ position p (take (i + 1) xs)
position_more p xs i x before after l is b a =
    let more : take (i + 1) xs ≡ take i xs ++ x ∷ [] = take_more xs i x l ∙ ap (λ y. take i xs ++ y ∷ []) (sym is) in
    let size : length (take i xs) ≡ i = length-take-le i xs (omega arith) in
    a ∙ ap (λ o. noted o (p x) i) b ∙ ap (noted (position p (take i xs)) (p x)) (sym size) ∙ sym (position_push p (take i xs) x) ∙ ap (position p) (sym more)
