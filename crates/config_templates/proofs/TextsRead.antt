-- A text that is read as a document is UTF-8.
use Rattle.std.proofs.Common.{◌≡◌, ℕ, Bool, true, false, List, length, refl}
use Rattle.std.specs.Prelude.{Result, Ok, Err, None, IsOk, IsUtf8, nat_le, if◌then◌else◌}
use Rattle.std.specs.Str.{is_utf8}
use Rattle.std.proofs.lemmas.Str.{IsUtf8-from_is_utf8}
use Rattle.zbx_types.specs.declared.causes.Cause.TheVariants.{TooLong}
use Rattle.json_form.specs.Faults.{Fault, ◌>>=◌}
use Rattle.json_form.specs.Json.{json_of, or_not_json, json_within}
use Rattle.json_form.specs.Places.{nowhere, refuse}
use Rattle.config_read.specs.declared.raw.RawConf.{RawConf}
use Rattle.config_read.specs.Document.{conf_of, document_of}
use Rattle.config_templates.specs.Flat.{read_of}

no_value : (bytes : List ℕ) → is_utf8 bytes ≡ false → json_of bytes ≡ None
no_value bytes e = rw e refl

is_utf8_json : (bytes : List ℕ) (b : Bool) → is_utf8 bytes ≡ b → IsOk (or_not_json (json_of bytes)) → IsUtf8 bytes
is_utf8_json bytes true e h = IsUtf8-from_is_utf8 bytes e
is_utf8_json bytes false e h = let n = rw (no_value bytes e) at h in absurd cc

is_utf8_within : (limit : ℕ) (bytes : List ℕ) → IsOk (json_within limit bytes) → IsUtf8 bytes
unfolding json_within
is_utf8_within limit bytes h = at (nat_le (length bytes) limit) h
  where
    at : (b : Bool) → IsOk (if b then or_not_json (json_of bytes) else refuse nowhere TooLong) → IsUtf8 bytes
    at true h = is_utf8_json bytes (is_utf8 bytes) refl h
    at false h = absurd cc

ok_first : {A B : Type 0} (r : Result A Fault) (k : A → Result B Fault) (b : B) → (r >>= k) ≡ Ok b → IsOk r
ok_first (Ok a) k b h = refl
ok_first (Err e) k b h = absurd cc

ok_read : (r : Result RawConf Fault) (raw : RawConf) → read_of r ≡ Ok raw → (x : RawConf) × (r ≡ Ok x)
ok_read (Ok x) raw h = (x, refl)
ok_read (Err e) raw h = absurd cc

pub is_text : (bytes : List ℕ) (raw : RawConf) → read_of (conf_of bytes) ≡ Ok raw → IsUtf8 bytes
is_text bytes raw h =
    let x = ok_read (conf_of bytes) raw h in
    is_utf8_within 16777216 bytes (ok_first (json_within 16777216 bytes) (λ d. document_of d) x.0 x.1)
