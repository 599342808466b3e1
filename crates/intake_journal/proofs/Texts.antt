-- Bytes as texts.
use Rattle.std.proofs.Common.{◌≡◌, ℕ, List, refl, Some, None, Bool, true, false}
use Rattle.std.specs.Str.{IsUtf8, is_utf8}
use Rattle.std.proofs.lemmas.Str.{IsUtf8-from_is_utf8, is_utf8-from_IsUtf8}
use Rattle.intake_journal.specs.Format.{text_of}

pub text_read : (bytes : List ℕ) → IsUtf8 bytes → text_of bytes ≡ Some bytes
text_read bytes utf8 = rw (is_utf8-from_IsUtf8 bytes utf8) refl

by_test : (bytes : List ℕ) (test : Bool) → is_utf8 bytes ≡ test → (IsUtf8 bytes → ⊥) → text_of bytes ≡ None
by_test bytes true e not = absurd (not (IsUtf8-from_is_utf8 bytes e))
by_test bytes false e not = rw e refl

pub text_refused : (bytes : List ℕ) → (IsUtf8 bytes → ⊥) → text_of bytes ≡ None
text_refused bytes not = by_test bytes (is_utf8 bytes) refl not
