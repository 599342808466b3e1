-- Bytes as a text.
use Rattle.std.proofs.Common.{◌≡◌, ℕ, List, refl, Some, None, Bool, true, false, IsUtf8, if◌then◌else◌}
use Rattle.std.specs.Str.{is_utf8}
use Rattle.std.proofs.lemmas.Str.{IsUtf8-from_is_utf8, is_utf8-from_IsUtf8}
use Rattle.json_path.specs.Tokens.{checked}

choice : {A : Type 0} (c : Bool) (a b : A) → c ≡ true → (if c then a else b) ≡ a
choice true a b h = refl
choice false a b h = absurd cc

pub utf8_checked : (bs : List ℕ) → IsUtf8 bs → checked bs ≡ Some bs
utf8_checked bs u = choice (is_utf8 bs) (Some bs) None (is_utf8-from_IsUtf8 bs u)

untrue : (c : Bool) → ((c ≡ true) → ⊥) → c ≡ false
untrue true h = absurd (h refl)
untrue false h = refl

other : {A : Type 0} (c : Bool) (a b : A) → c ≡ false → (if c then a else b) ≡ b
other true a b h = absurd cc
other false a b h = refl

pub not_checked : (bs : List ℕ) → (IsUtf8 bs → ⊥) → checked bs ≡ None
not_checked bs h = other (is_utf8 bs) (Some bs) None (untrue (is_utf8 bs) (λ e. h (IsUtf8-from_is_utf8 bs e)))

both : (c : Bool) (bs w : List ℕ) → (if c then Some bs else None) ≡ Some w → (c ≡ true) × (bs ≡ w)
both true bs w h = (refl, cc)
both false bs w h = absurd cc

-- what is checked is UTF-8, and is the text
pub checked_is : (bs w : List ℕ) → checked bs ≡ Some w → IsUtf8 bs × (bs ≡ w)
checked_is bs w h = let p = both (is_utf8 bs) bs w h in (IsUtf8-from_is_utf8 bs p.0, p.1)
