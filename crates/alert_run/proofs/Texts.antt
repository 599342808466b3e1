-- Bytes as texts.
use Rattle.std.proofs.Common.{◌≡◌, ℕ, List, refl, sym, Bool, true, false}
use Rattle.std.specs.Str.{IsUtf8, is_utf8}
use Rattle.std.proofs.lemmas.Str.{IsUtf8-from_is_utf8, is_utf8-from_IsUtf8}

pub is_text_read : (bytes : List ℕ) → IsUtf8 bytes → true ≡ is_utf8 bytes
is_text_read bytes utf8 = sym (is_utf8-from_IsUtf8 bytes utf8)

by_test : (bytes : List ℕ) (test : Bool) → is_utf8 bytes ≡ test → (IsUtf8 bytes → ⊥) → false ≡ is_utf8 bytes
by_test bytes true e not = absurd (not (IsUtf8-from_is_utf8 bytes e))
by_test bytes false e not = sym e

pub is_text_refused : (bytes : List ℕ) → (IsUtf8 bytes → ⊥) → false ≡ is_utf8 bytes
is_text_refused bytes not = by_test bytes (is_utf8 bytes) refl not
