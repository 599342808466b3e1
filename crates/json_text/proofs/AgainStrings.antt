-- What is written of a text in quotes stands for the text.
use Rattle.std.proofs.Common.{◌≡◌, ◌≢◌, ℕ, ◌/◌, ◌%◌, ◌≤◌, ◌<◌, ◌==◌, List, [], ◌∷◌, ◌++◌, refl, ap, sym, ◌∙◌, true, false, arith, nat_lt, inl, inr, append_assoc}
use Rattle.std.proofs.lemmas.Bool.Decides.{nat_tests}
use Rattle.std.proofs.lemmas.Str.{encode_ascii}
use Rattle.std.specs.Char.{IsScalar, encode_utf8, digit_char}
use Rattle.json_text.specs.Bytes.{is_hex, hex_value, hex_code}
use Rattle.json_text.specs.Grammar.{IsChar, plain, short, code, AreChars, no_chars, more_chars, IsString}
use Rattle.byte_grammar.specs.Bytes.{Each}
use Rattle.byte_grammar.proofs.Utf8Meaning.{is_high, encode_high}
use Rattle.json_text.specs.Written.{escaped_byte, escaped, in_quotes}
use Rattle.json_text.proofs.CharBytes.{decide}
use Rattle.json_text.proofs.CharCodes.{char_code}

escaped-append : (a b : List ℕ) → escaped (a ++ b) ≡ escaped a ++ escaped b
unfolding escaped
escaped-append [] b = refl
escaped-append (x ∷ a) b = ap (λ (v : List ℕ). escaped_byte x ++ v) (escaped-append a b) ∙ sym (append_assoc (escaped_byte x) (escaped a) (escaped b))

-- ---- bytes that stay

stays : (b : ℕ) → nat_lt b 128 ≡ false → escaped_byte b ≡ b ∷ []
stays b h =
    let x : (b == 34) ≡ false = grind (arith, nat_tests) in
    let y : (b == 92) ≡ false = grind (arith, nat_tests) in
    let z : nat_lt b 32 ≡ false = grind (arith, nat_tests) in
    rw (x, y, z) refl

wide_stays : (t : List ℕ) → Each is_high t → escaped t ≡ t
unfolding escaped Each
wide_stays [] h = refl
wide_stays (b ∷ t) h = rw (stays b (not_low b h.0)) (ap (λ (v : List ℕ). b ∷ v) (wide_stays t h.1))
  where
    not_low : (b : ℕ) → is_high b ≡ true → nat_lt b 128 ≡ false
    not_low b e = grind (arith, nat_tests)

-- ---- bytes below 32

digit_is_hex : (v : ℕ) → v < 16 → is_hex (digit_char v) ≡ true
digit_is_hex v h = grind (arith, nat_tests)

digit_value : (v : ℕ) → v < 16 → hex_value (digit_char v) ≡ v
digit_value v h = grind (arith, nat_tests)

low_code : (b : ℕ) → b < 32 → hex_code 48 48 (digit_char (b / 16)) (digit_char (b % 16)) ≡ b
low_code b h = rw (digit_value (b / 16) (omega arith), digit_value (b % 16) (omega arith)) (omega arith)

low_char : (b : ℕ) → b < 32 → IsChar (92 ∷ 117 ∷ 48 ∷ 48 ∷ digit_char (b / 16) ∷ digit_char (b % 16) ∷ []) (b ∷ [])
low_char b h =
    code 48 48 (digit_char (b / 16)) (digit_char (b % 16)) refl refl (digit_is_hex (b / 16) (omega arith)) (digit_is_hex (b % 16) (omega arith)) refl refl refl
    (sym (encode_ascii b (omega arith)) ∙ ap encode_utf8 (sym (low_code b h)))

-- ---- characters

one_char : (b : ℕ) → b < 128 → IsScalar b → IsChar (escaped (b ∷ [])) (b ∷ [])
unfolding escaped
one_char b l s = elim (decide (b == 34)) [
  | inl e ↦ let g : b ≡ 34 = grind (arith, nat_tests) in rw g (short 34 34 refl refl refl)
  | inr e ↦ elim (decide (b == 92)) [
    | inl f ↦ let g : b ≡ 92 = grind (arith, nat_tests) in rw g (short 92 92 refl refl refl)
    | inr f ↦ elim (decide (nat_lt b 32)) [
      | inl h ↦ let g : b < 32 = grind (arith, nat_tests) in rw (e, f, h) (low_char b g)
      | inr h ↦ rw (e, f, h) (plain b s (grind (arith, nat_tests)) (differ b 34 e) (differ b 92 f) (sym (encode_ascii b l)) (sym (encode_ascii b l)))
    ]
  ]
]
  where
    differ : (b n : ℕ) → (b == n) ≡ false → b ≢ n
    differ b n e = λ f. grind (arith, nat_tests)

code_again : (c : ℕ) → IsScalar c → IsChar (escaped (encode_utf8 c)) (encode_utf8 c)
code_again c s = elim (decide (nat_lt c 128)) [
  | inl e ↦ let l : c < 128 = grind (arith, nat_tests) in rw (encode_ascii c l) (one_char c l s)
  | inr e ↦
      let l : 128 ≤ c = grind (arith, nat_tests) in
      rw (wide_stays (encode_utf8 c) (encode_high c l)) (plain c s (omega arith) (λ f. omega (arith, l, f)) (λ f. omega (arith, l, f)) refl refl)
]

chars_again : {t s : List ℕ} → AreChars t s → AreChars (escaped s) s
unfolding escaped
chars_again no_chars = no_chars
chars_again (more_chars u r v c h g et es) =
    let k = char_code g in
    more_chars (escaped r) r (escaped c) c (chars_again h) (rw k.is (code_again k.c k.is_scalar)) (ap escaped es ∙ escaped-append r c) es

-- a text that stands in quotes stands so again
pub string_again : (t s : List ℕ) → IsString t s → IsString (in_quotes s) s
string_again t s w = (escaped s, chars_again w.1, refl)
