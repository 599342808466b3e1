-- What stands in quotes is the UTF-8 of characters.
use Rattle.std.proofs.Common.{◌≡◌, ℕ, ◌+◌, ◌*◌, ◌≤◌, ◌<◌, ◌==◌, List, sym, ◌∙◌, Some, false, arith, nat_le, nat_lt, inl, inr, if◌then◌else◌, IsUtf8, subst}
use Rattle.std.proofs.lemmas.Bool.Decides.{nat_tests}
use Rattle.std.proofs.lemmas.Str.{encode_ascii, IsUtf8-append, IsUtf8-encode, IsUtf8-nil}
use Rattle.std.specs.Char.{IsScalar, encode_utf8}
use lib.Utf8.{low_scalar}
use Rattle.json_text.specs.Bytes.{hex_value, hex_code, paired, short_escape}
use Rattle.json_text.specs.Grammar.{IsChar, plain, short, code, pair, AreChars, no_chars, more_chars}
use Rattle.json_text.proofs.CharBytes.{decide}

-- the character that bytes are
pub record IsCode (bytes : List ℕ) : Type 0 where
  pub c : ℕ
  pub is_scalar : IsScalar c
  pub is : bytes ≡ encode_utf8 c

high_scalar : (c : ℕ) → 57344 ≤ c → c < 1114112 → IsScalar c
high_scalar c l h = grind (arith, nat_tests)

short_small : (b c : ℕ) → short_escape b ≡ Some c → c < 128
short_small b c e = grind (arith, nat_tests)

hex_small : (b : ℕ) → hex_value b < 16
hex_small b = grind (arith, nat_tests)

-- four digits that are no surrogate
no_surrogate : (v w x y : ℕ) → v < 16 → w < 16 → x < 16 → y < 16
    → (if v == 13 then (if nat_le 8 w then nat_lt w 12 else false) else false) ≡ false → (if v == 13 then nat_le 12 w else false) ≡ false
    → IsScalar (v * 4096 + w * 256 + x * 16 + y)
no_surrogate v w x y hv hw hx hy h l = elim (decide (nat_lt v 13)) [
  | inl e ↦ let g : v < 13 = grind (arith, nat_tests) in low_scalar (v * 4096 + w * 256 + x * 16 + y) (omega arith)
  | inr e ↦ let g : 13 ≤ v = grind (arith, nat_tests) in elim (decide (v == 13)) [
    | inl f ↦
        let s : w < 8 = below w (rw f at h) (rw f at l) in
        let t : v ≡ 13 = grind (arith, nat_tests) in
        low_scalar (v * 4096 + w * 256 + x * 16 + y) (omega arith)
    | inr f ↦ let t : 14 ≤ v = grind (arith, nat_tests) in high_scalar (v * 4096 + w * 256 + x * 16 + y) (omega arith) (omega arith)
  ]
]
  where
    below : (w : ℕ) → (if nat_le 8 w then nat_lt w 12 else false) ≡ false → nat_le 12 w ≡ false → w < 8
    below w h l = grind (arith, nat_tests)

pair_scalar : (h l : ℕ) → IsScalar (paired h l)
pair_scalar h l = high_scalar (paired h l) (omega arith) (omega arith)

pub char_code : {t s : List ℕ} → IsChar t s → IsCode s
char_code (plain c x l e f et es) = record { c = c; is_scalar = x; is = es }
char_code (short b c e et es) =
    let g = short_small b c e in record { c = c; is_scalar = low_scalar c (omega arith); is = es ∙ sym (encode_ascii c g) }
char_code (code a b c d xa xb xc xd h l et es) = record {
  c = hex_code a b c d;
  is_scalar = no_surrogate (hex_value a) (hex_value b) (hex_value c) (hex_value d) (hex_small a) (hex_small b) (hex_small c) (hex_small d) h l;
  is = es;
}
char_code (pair a b c d e f g h xa xb xc xd xe xf xg xh hi lo et es) = record { c = paired (hex_code a b c d) (hex_code e f g h); is_scalar = pair_scalar (hex_code a b c d) (hex_code e f g h); is = es }

-- the text of a string is UTF-8
pub chars_utf8 : {t s : List ℕ} → AreChars t s → IsUtf8 s
chars_utf8 no_chars = IsUtf8-nil
chars_utf8 (more_chars u r v c h g et es) =
    let k = char_code g in
    subst IsUtf8 (sym es) (IsUtf8-append r c (chars_utf8 h) (subst IsUtf8 (sym k.is) (IsUtf8-encode k.c k.is_scalar)))
