-- Laws of characters dropped at the ends of a text.
use Rattle.std.proofs.Common.{◌≡◌, ℕ, true, false, List, [], ◌∷◌, ◌++◌, length, cond, sym, ap, ◌∙◌, reverse, append-nil, arith}
use Rattle.std.specs.Char.{encode_utf8, IsScalar}
use Rattle.std.specs.Str.{IsUtf8, chars, encode_utf8_all}
use Rattle.std.proofs.lemmas.Str.{chars_past_char, chars-append, chars-nil, encodes-chars, IsUtf8-encode}
use Rattle.std.proofs.lemmas.List.{reverse-append, reverse-reverse}
use Rattle.prep_steps.specs.Words.{is_among, without_first, without_last, trimmed_left, trimmed_right}

-- a dropped first character
pub first_dropped : (set text rest : List ℕ) (c : ℕ) → IsUtf8 text → text ≡ encode_utf8 c ++ rest → is_among set c ≡ true
    → trimmed_left set rest ≡ trimmed_left set text
unfolding trimmed_left
first_dropped set text rest c u e drops =
    ap encode_utf8_all (sym (ap (without_first (is_among set)) (chars_past_char text rest c u e) ∙ ap (λ b. cond b (without_first (is_among set) (chars rest)) (c ∷ chars rest)) drops))

-- a first character that stays
pub first_stays : (set text rest : List ℕ) (c : ℕ) → IsUtf8 text → text ≡ encode_utf8 c ++ rest → is_among set c ≡ false
    → text ≡ trimmed_left set text
unfolding trimmed_left
first_stays set text rest c u e stays =
    let all : chars text ≡ c ∷ chars rest = chars_past_char text rest c u e in
    sym (encodes-chars text u)
    ∙ ap encode_utf8_all (all ∙ sym (ap (without_first (is_among set)) all ∙ ap (λ b. cond b (without_first (is_among set) (chars rest)) (c ∷ chars rest)) stays))

-- nothing to drop
pub none_left : (set text : List ℕ) → length text ≡ 0 → text ≡ trimmed_left set text
unfolding trimmed_left
none_left set [] h = sym (ap (λ cs. encode_utf8_all (without_first (is_among set) cs)) chars-nil)
none_left set (c ∷ text) h = absurd (omega arith)

pub none_right : (set text : List ℕ) → length text ≡ 0 → text ≡ trimmed_right set text
unfolding trimmed_right
none_right set [] h = sym (ap (λ cs. encode_utf8_all (without_last (is_among set) cs)) chars-nil)
none_right set (c ∷ text) h = absurd (omega arith)

-- the characters of a text that ends with one
with_last : (text rest : List ℕ) (c : ℕ) → IsUtf8 rest → IsScalar c → text ≡ rest ++ encode_utf8 c → chars text ≡ chars rest ++ c ∷ []
with_last text rest c u scalar e =
    let one : chars (encode_utf8 c) ≡ c ∷ [] = chars_past_char (encode_utf8 c) [] c (IsUtf8-encode c scalar) (sym (append-nil (encode_utf8 c))) ∙ ap (λ t. c ∷ t) chars-nil in
    ap chars e ∙ chars-append rest (encode_utf8 c) u ∙ ap (λ t. chars rest ++ t) one

turned : (text rest : List ℕ) (c : ℕ) → chars text ≡ chars rest ++ c ∷ [] → reverse (chars text) ≡ c ∷ reverse (chars rest)
turned text rest c e = ap reverse e ∙ reverse-append (chars rest) (c ∷ [])

-- a dropped last character
pub last_dropped : (set text rest : List ℕ) (c : ℕ) → IsUtf8 rest → IsScalar c → text ≡ rest ++ encode_utf8 c → is_among set c ≡ true
    → trimmed_right set rest ≡ trimmed_right set text
unfolding trimmed_right
last_dropped set text rest c u scalar e drops =
    ap (λ cs. encode_utf8_all (reverse cs)) (sym (
    ap (without_first (is_among set)) (turned text rest c (with_last text rest c u scalar e))
    ∙ ap (λ b. cond b (without_first (is_among set) (reverse (chars rest))) (c ∷ reverse (chars rest))) drops
    ))

-- a last character that stays
pub last_stays : (set text rest : List ℕ) (c : ℕ) → IsUtf8 text → IsUtf8 rest → IsScalar c → text ≡ rest ++ encode_utf8 c → is_among set c ≡ false
    → text ≡ trimmed_right set text
unfolding trimmed_right
last_stays set text rest c ut u scalar e stays =
    let all : reverse (chars text) ≡ c ∷ reverse (chars rest) = turned text rest c (with_last text rest c u scalar e) in
    sym (
    ap (λ cs. encode_utf8_all (reverse cs)) (
    ap (without_first (is_among set)) all
    ∙ ap (λ b. cond b (without_first (is_among set) (reverse (chars rest))) (c ∷ reverse (chars rest))) stays
    ∙ sym all
    )
    ∙ ap encode_utf8_all (reverse-reverse (chars text))
    ∙ encodes-chars text ut
    )
