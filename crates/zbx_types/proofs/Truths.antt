-- Truths.
use Rattle.std.proofs.Common.{◌≡◌, Bool, true, false, refl}

-- what isn't true is false
pub isnt_true : (b : Bool) → (b ≡ true → ⊥) → b ≡ false
isnt_true true wrong = absurd (wrong refl)
isnt_true false wrong = refl
