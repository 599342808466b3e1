-- What a search through a list answers.
use Rattle.std.proofs.Common.{◌↔◌, ℕ, ◌<◌, Bool, true, false, List, [], ◌∷◌, length, IsTrue, MatchBool, get_or, refl, arith}
use Rattle.std.specs.Prelude.{Any}
use Rattle.std.specs.List.{HoldsAt, AllWithin}
use Rattle.std.proofs.lemmas.List.{get_or_default}
use Rattle.std.proofs.lemmas.Bool.{false≢true}

-- an item at a place, which stands for itself as the default
any_at : {X : Type 0} (P : X → Type 0) (xs : List X) (k : ℕ) → k < length xs → HoldsAt P xs k → Any P xs
any_at P [] k below h = absurd (omega arith)
any_at P (x ∷ xs) k below h =
    (k, get_or (x ∷ xs) k x, below, get_or_default (x ∷ xs) k (get_or (x ∷ xs) k x) x below, h x)

pub found_decides : {X : Type 0} (P : X → Type 0) (r : Bool) (xs : List X) → MatchBool r ((k : ℕ) × (k < length xs) × HoldsAt P xs k) (AllWithin (λ x. P x → ⊥) xs 0 (length xs)) → IsTrue r ↔ Any P xs
found_decides P true xs h = (λ _. any_at P xs h.0 h.1 h.2, λ _. refl)
found_decides P false xs h =
    (λ e. absurd (false≢true e), λ w. absurd (h w.0 w.1 (omega arith) w.2 (rw w.3 w.4)))
