-- The JSON value of bytes, by that of the text that they are.
use Rattle.std.proofs.Common.{◌≡◌, ℕ, Bool, true, false, List, refl}
use Rattle.std.specs.Prelude.{IsUtf8, Some, None}
use Rattle.std.specs.Str.{is_utf8}
use Rattle.std.proofs.lemmas.Str.{IsUtf8-from_is_utf8, is_utf8-from_IsUtf8}
use Rattle.serde_json.specs.Data.{Data}
use Rattle.serde_json.specs.Read.{read as read_json}
use Rattle.json_form.specs.Json.{json_of}

-- bytes in UTF-8 have the value of their text
pub is_json : (bytes : List ℕ) (d : Data) → IsUtf8 bytes → read_json bytes ≡ Some d → json_of bytes ≡ Some d
is_json bytes d u r = rw (is_utf8-from_IsUtf8 bytes u) r

on_test : (bytes : List ℕ) (b : Bool) → is_utf8 bytes ≡ b → (IsUtf8 bytes → read_json bytes ≡ None) → json_of bytes ≡ None
on_test bytes true e none = rw e (none (IsUtf8-from_is_utf8 bytes e))
on_test bytes false e none = rw e refl

-- bytes have no value where those in UTF-8 have none
pub not_json : (bytes : List ℕ) → (IsUtf8 bytes → read_json bytes ≡ None) → json_of bytes ≡ None
not_json bytes none = on_test bytes (is_utf8 bytes) refl none
