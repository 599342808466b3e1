-- Parts of a base as they are written, one behind the other.
use Rattle.std.proofs.Common.{◌≡◌, ℕ, ◌+◌, ◌<◌, List, [], ◌∷◌, ◌++◌, length, take, get_or, sym, ap, ◌∙◌, append_assoc}
use Rattle.std.proofs.lemmas.Grind.{flat_map-append}
use Rattle.std.proofs.lemmas.List.{append-nil, take_more}
use Rattle.std.specs.List.{flat_map}

-- a piece more behind what was added
pub one_more : (new mid old a b : List ℕ) → mid ≡ old ++ a → new ≡ mid ++ b → new ≡ old ++ (a ++ b)
one_more new mid old a b before done = done ∙ ap (λ (x : List ℕ). x ++ b) before ∙ append_assoc old a b

-- the parts up to a place, and the one there
parts_more : {A : Type 0} (bytes : A → List ℕ) (xs : List A) (i : ℕ) (x : A) → i < length xs → x ≡ get_or xs i x → flat_map bytes (take i xs) ++ bytes x ≡ flat_map bytes (take (i + 1) xs)
parts_more {A = A} bytes xs i x lt there =
    ap (λ (y : A). flat_map bytes (take i xs) ++ bytes y) there
    ∙ sym (ap (λ (y : List A). flat_map bytes y) (take_more xs i x lt)
    ∙ flat_map-append bytes (take i xs) (get_or xs i x ∷ [])
    ∙ ap (λ (y : List ℕ). flat_map bytes (take i xs) ++ y) (append-nil (bytes (get_or xs i x))))

pub part_added : {A : Type 0} (bytes : A → List ℕ) (xs : List A) (i : ℕ) (x : A) (new mid old : List ℕ) → i < length xs → x ≡ get_or xs i x
    → mid ≡ old ++ flat_map bytes (take i xs) → new ≡ mid ++ bytes x → new ≡ old ++ flat_map bytes (take (i + 1) xs)
part_added bytes xs i x new mid old lt there before done =
    one_more new mid old (flat_map bytes (take i xs)) (bytes x) before done ∙ ap (λ (y : List ℕ). old ++ y) (parts_more bytes xs i x lt there)
