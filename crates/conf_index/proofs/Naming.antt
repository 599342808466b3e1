-- The first item of a name, with one item more.
use Rattle.std.proofs.Common.{◌≡◌, ℕ, ◌+◌, ◌<◌, ◌≤◌, Bool, true, false, cond, not, List, [], ◌∷◌, ◌++◌, length, take, get_or, Option, option_map, sym, ◌∙◌, ap, arith, length-append}
use Rattle.std.specs.Prelude.{position}
use Rattle.std.specs.List.{position_or_len}
use Rattle.std.proofs.lemmas.Bool.Decides.{nat_tests}
use Rattle.std.proofs.lemmas.List.{take_more, length-take-le}
use Rattle.std.proofs.lemmas.List.Folds.{position_or_len_push}
use Rattle.conf_index.specs.Index.{noted}

-- the id of the first item that passes a test
abbrev pub first_id : {A : Type 0} → (A → Bool) → List A → Option ℕ
first_id p xs = option_map (λ place. place + 1) (position p xs)

within : {A : Type 0} (p : A → Bool) (xs : List A) → position_or_len p xs ≤ length xs
within p [] = omega arith
within p (x ∷ xs) = go (p x) (within p xs)
  where
    go : (b : Bool) → position_or_len p xs ≤ length xs → cond (not b) (1 + position_or_len p xs) 0 ≤ length (x ∷ xs)
    go true h = omega arith
    go false h = omega arith

first_push : {A : Type 0} (p : A → Bool) (xs : List A) (x : A) → first_id p (xs ++ x ∷ []) ≡ noted (first_id p xs) (p x) (length xs + 1)
first_push p xs x = let w = within p xs in grind (arith, nat_tests, position_or_len_push p xs x, length-append xs (x ∷ []))

pub first_more : {A : Type 0} (p : A → Bool) (xs : List A) (i : ℕ) (x : A) (before after : Option ℕ) → i < length xs → x ≡ get_or xs i x → before ≡ first_id p (take i xs) → after ≡ noted before (p x) (i + 1)
    → after ≡ first_id p (take (i + 1) xs)
first_more p xs i x before after l is b a =
    let more : take (i + 1) xs ≡ take i xs ++ x ∷ [] = take_more xs i x l ∙ ap (λ y. take i xs ++ y ∷ []) (sym is) in
    let size : length (take i xs) ≡ i = length-take-le i xs (omega arith) in
    a ∙ ap (λ o. noted o (p x) (i + 1)) b ∙ ap (λ n. noted (first_id p (take i xs)) (p x) (n + 1)) (sym size) ∙ sym (first_push p (take i xs) x) ∙ ap (first_id p) (sym more)
