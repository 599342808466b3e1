-- What the grammar says is a string, the machine takes, and makes the same text of it.
use Rattle.std.proofs.Common.{◌≡◌, ◌≢◌, ℕ, ◌≤◌, ◌<◌, ◌==◌, List, [], ◌∷◌, ◌++◌, refl, ap, sym, subst, ◌∙◌, Option, Some, Bool, true, false, arith, nat_le, nat_lt, inl, inr, append_assoc, append-nil, if◌then◌else◌}
use Rattle.std.proofs.lemmas.Bool.Decides.{nat_tests}
use Rattle.std.proofs.lemmas.Str.{encode_ascii, IsUtf8-encode}
use Rattle.std.specs.Char.{IsScalar, encode_utf8}
use Rattle.json_text.specs.Bytes.{is_hex, hex_value, hex_code, is_high, is_low, paired, short_escape}
use Rattle.json_text.specs.Grammar.{IsChar, plain, short, code, pair, AreChars, no_chars, more_chars}
use Rattle.byte_grammar.specs.Bytes.{Each}
use Rattle.byte_grammar.specs.Runs.{run}
use Rattle.byte_grammar.specs.Utf8.{follow}
use Rattle.byte_grammar.specs.declared.characters.Character.{Character}
use Rattle.byte_grammar.specs.declared.characters.Character.TheVariants.{Whole, One, Two, Three, BehindE0, BehindEd, BehindF0, BehindF4}
use Rattle.byte_grammar.proofs.Runs.{run_first, run_end}
use Rattle.byte_grammar.proofs.Utf8Texts.{text_taken}
use Rattle.byte_grammar.proofs.Utf8Meaning.{is_high as is_high_byte, encode_high}
use Rattle.json_text.specs.Tokens.{spot, at_character, character_on}
use Rattle.json_text.specs.Machine.{state, move, string_on, after}
use Rattle.json_text.specs.declared.frame.Frame.{Frame}
use Rattle.json_text.specs.declared.place.Use.{Use}
use Rattle.json_text.specs.declared.place.Mode.TheVariants.{String}
use Rattle.json_text.specs.declared.machine.State.{State}
use Rattle.json_text.specs.declared.string.InString.{InString}
use Rattle.json_text.specs.declared.string.InString.TheVariants.{Between, Hex, Hex2, High2, Low, Low2}
use Rattle.json_text.proofs.Runs.{joined, stepped, no_step}
use Rattle.json_text.proofs.CharBytes.{decide}

abbrev pub in_string : Use → InString → List ℕ → List Frame → Option State
in_string u p s k = Some (state (String u (spot p s)) k)

-- a run in a string from one place to another
abbrev Leads : Use → List Frame → InString → List ℕ → List ℕ → InString → List ℕ → Type 0
Leads u k p s t q r = after (in_string u p s k) t ≡ in_string u q r k

abbrev go_by : (u : Use) (k : List Frame) (p : InString) (s : List ℕ) (b : ℕ) (bs : List ℕ) (q : InString) (r : List ℕ)
    → move (String u (spot p s)) k b ≡ in_string u q r k → after (in_string u p s k) (b ∷ bs) ≡ after (in_string u q r k) bs
go_by u k p s b bs q r e = stepped (String u (spot p s)) k b bs (in_string u q r k) e

-- ---- characters as they are

ascii_step : (u : Use) (k : List Frame) (s : List ℕ) (c : ℕ) → 32 ≤ c → c < 128 → (c == 34) ≡ false → (c == 92) ≡ false
    → move (String u (spot Between s)) k c ≡ in_string u Between (s ++ c ∷ []) k
ascii_step u k s c l h e f =
    let x : nat_lt c 32 ≡ false = grind (arith, nat_tests) in
    let y : nat_lt c 128 ≡ true = grind (arith, nat_tests) in
    rw (e, f, x, y) refl

-- a byte of a character of two bytes or more
high_step : (u : Use) (k : List Frame) (s : List ℕ) (c d : Character) (b : ℕ) → is_high_byte b ≡ true → follow c b ≡ Some d
    → move (String u (spot (at_character c) s)) k b ≡ in_string u (at_character d) (s ++ b ∷ []) k
high_step u k s Whole d b h e =
    let w : (b == 34) ≡ false = grind (arith, nat_tests) in
    let v : (b == 92) ≡ false = grind (arith, nat_tests) in
    let x : nat_lt b 32 ≡ false = grind (arith, nat_tests) in
    rw (w, v, x) (ap (λ o. string_on u (character_on o (s ++ b ∷ [])) k) e)
high_step u k s One d b h e = ap (λ o. string_on u (character_on o (s ++ b ∷ [])) k) e
high_step u k s Two d b h e = ap (λ o. string_on u (character_on o (s ++ b ∷ [])) k) e
high_step u k s Three d b h e = ap (λ o. string_on u (character_on o (s ++ b ∷ [])) k) e
high_step u k s BehindE0 d b h e = ap (λ o. string_on u (character_on o (s ++ b ∷ [])) k) e
high_step u k s BehindEd d b h e = ap (λ o. string_on u (character_on o (s ++ b ∷ [])) k) e
high_step u k s BehindF0 d b h e = ap (λ o. string_on u (character_on o (s ++ b ∷ [])) k) e
high_step u k s BehindF4 d b h e = ap (λ o. string_on u (character_on o (s ++ b ∷ [])) k) e

no_bytes : (u : Use) (k : List Frame) (s : List ℕ) (c d : Character) → Some c ≡ Some d → Leads u k (at_character c) s [] (at_character d) (s ++ [])
no_bytes u k s c d e =
    let g : c ≡ d = cc in
    subst (λ (z : Character). Leads u k (at_character c) s [] (at_character z) (s ++ [])) g
    (subst (λ (v : List ℕ). Leads u k (at_character c) s [] (at_character c) v) (sym (append-nil s)) (no_step (in_string u (at_character c) s k)))

wide_run : (u : Use) (k : List Frame) (bs s : List ℕ) (c d : Character) → Each is_high_byte bs → run follow (Some c) bs ≡ Some d → Leads u k (at_character c) s bs (at_character d) (s ++ bs)
unfolding Each
wide_run u k [] s c d h e = no_bytes u k s c d (sym (run_end follow (Some c)) ∙ e)
wide_run u k (b ∷ bs) s c d h e =
    let f = run_first follow c d b bs e in
    go_by u k (at_character c) s b bs (at_character f.0) (s ++ b ∷ []) (high_step u k s c f.0 b h.0 f.1)
    ∙ wide_run u k bs (s ++ b ∷ []) f.0 d h.1 f.2
    ∙ ap (λ (z : List ℕ). in_string u (at_character d) z k) (append_assoc s (b ∷ []) bs)

no_eq : (c n : ℕ) → c ≢ n → (c == n) ≡ false
no_eq c n h = elim (decide (c == n)) [
  | inl e ↦ absurd (h (grind (arith, nat_tests)))
  | inr e ↦ e
]

plain_run : (u : Use) (k : List Frame) (s : List ℕ) (c : ℕ) → IsScalar c → 32 ≤ c → c ≢ 34 → c ≢ 92 → Leads u k Between s (encode_utf8 c) Between (s ++ encode_utf8 c)
plain_run u k s c x l e f = elim (decide (nat_lt c 128)) [
  | inl y ↦ let h : c < 128 = grind (arith, nat_tests) in
      rw (encode_ascii c h) (go_by u k Between s c [] Between (s ++ c ∷ []) (ascii_step u k s c l h (no_eq c 34 e) (no_eq c 92 f)) ∙ no_step _)
  | inr y ↦ wide_run u k (encode_utf8 c) s Whole Whole (encode_high c (grind (arith, nat_tests))) (text_taken (encode_utf8 c) (IsUtf8-encode c x))
]

-- ---- escapes

no_u : (b c : ℕ) → short_escape b ≡ Some c → (b == 117) ≡ false
no_u b c e = grind (arith, nat_tests)

short_run : (u : Use) (k : List Frame) (s : List ℕ) (b c : ℕ) → short_escape b ≡ Some c → Leads u k Between s (92 ∷ b ∷ []) Between (s ++ c ∷ [])
unfolding run
short_run u k s b c e = rw (no_u b c e, e) refl

-- two digits that begin no surrogate
two_digits : (u : Use) (k : List Frame) (s : List ℕ) (a b : ℕ) → is_hex a ≡ true → is_hex b ≡ true → is_high a b ≡ false → is_low a b ≡ false
    → Leads u k Hex s (a ∷ b ∷ []) (Hex2 a b) s
unfolding run
two_digits u k s a b x y h l = elim (decide (hex_value a == 13)) [
  | inl e ↦ let g : nat_lt (hex_value b) 8 ≡ true = small (hex_value a == 13) (hex_value b) e h l in rw (x, e, g, y) refl
  | inr e ↦ rw (x, e, y) refl
]
  where
    small : (t : Bool) (v : ℕ) → t ≡ true → (if t then (if nat_le 8 v then nat_lt v 12 else false) else false) ≡ false → (if t then nat_le 12 v else false) ≡ false → nat_lt v 8 ≡ true
    small true v e h l = grind (arith, nat_tests)
    small false v e h l = absurd cc

-- two digits that begin a high one
high_digits : (u : Use) (k : List Frame) (s : List ℕ) (a b : ℕ) → is_hex a ≡ true → is_high a b ≡ true → Leads u k Hex s (a ∷ b ∷ []) (High2 a b) s
unfolding run
high_digits u k s a b x h = elim (decide (hex_value a == 13)) [
  | inl e ↦ let g = eight (hex_value a == 13) (hex_value b) h in rw (x, e, g.0, g.1) refl
  | inr e ↦ absurd (none (hex_value a == 13) _ e h)
]
  where
    eight : (t : Bool) (v : ℕ) → (if t then (if nat_le 8 v then nat_lt v 12 else false) else false) ≡ true → (nat_lt v 8 ≡ false) × (nat_lt v 12 ≡ true)
    eight true v h = (grind (arith, nat_tests), grind (arith, nat_tests))
    eight false v h = absurd cc

    none : (t c : Bool) → t ≡ false → (if t then c else false) ≡ true → ⊥
    none true c e h = cc
    none false c e h = cc

low_digits : (u : Use) (k : List Frame) (s : List ℕ) (h a b : ℕ) → is_low a b ≡ true → Leads u k (Low h) s (a ∷ b ∷ []) (Low2 h a b) s
unfolding run
low_digits u k s h a b l = elim (decide (hex_value a == 13)) [
  | inl e ↦ let g = twelve (hex_value a == 13) (hex_value b) l in rw (e, g) refl
  | inr e ↦ absurd (none (hex_value a == 13) _ e l)
]
  where
    twelve : (t : Bool) (v : ℕ) → (if t then nat_le 12 v else false) ≡ true → nat_lt v 12 ≡ false
    twelve true v h = grind (arith, nat_tests)
    twelve false v h = absurd cc

    none : (t c : Bool) → t ≡ false → (if t then c else false) ≡ true → ⊥
    none true c e h = cc
    none false c e h = cc

begun_escape : (u : Use) (k : List Frame) (s t : List ℕ) → after (in_string u Between s k) (92 ∷ 117 ∷ t) ≡ after (in_string u Hex s k) t
unfolding run
begun_escape u k s t = refl

last_two : (u : Use) (k : List Frame) (s : List ℕ) (a b c d : ℕ) → is_hex c ≡ true → is_hex d ≡ true
    → Leads u k (Hex2 a b) s (c ∷ d ∷ []) Between (s ++ encode_utf8 (hex_code a b c d))
unfolding run
last_two u k s a b c d x y = rw (x, y) refl

high_two : (u : Use) (k : List Frame) (s t : List ℕ) (a b c d : ℕ) → is_hex c ≡ true → is_hex d ≡ true
    → after (in_string u (High2 a b) s k) (c ∷ d ∷ 92 ∷ 117 ∷ t) ≡ after (in_string u (Low (hex_code a b c d)) s k) t
unfolding run
high_two u k s t a b c d x y = rw (x, y) refl

low_two : (u : Use) (k : List Frame) (s : List ℕ) (h a b c d : ℕ) → is_hex c ≡ true → is_hex d ≡ true
    → Leads u k (Low2 h a b) s (c ∷ d ∷ []) Between (s ++ encode_utf8 (paired h (hex_code a b c d)))
unfolding run
low_two u k s h a b c d x y = rw (x, y) refl

code_run : (u : Use) (k : List Frame) (s : List ℕ) (a b c d : ℕ) → is_hex a ≡ true → is_hex b ≡ true → is_hex c ≡ true → is_hex d ≡ true → is_high a b ≡ false → is_low a b ≡ false
    → Leads u k Between s (92 ∷ 117 ∷ a ∷ b ∷ c ∷ d ∷ []) Between (s ++ encode_utf8 (hex_code a b c d))
code_run u k s a b c d xa xb xc xd h l =
    begun_escape u k s (a ∷ b ∷ c ∷ d ∷ [])
    ∙ joined (in_string u Hex s k) (in_string u (Hex2 a b) s k) (a ∷ b ∷ []) (c ∷ d ∷ []) (two_digits u k s a b xa xb h l)
    ∙ last_two u k s a b c d xc xd

pair_run : (u : Use) (k : List Frame) (s : List ℕ) (a b c d e f g h : ℕ) → is_hex a ≡ true → is_hex c ≡ true → is_hex d ≡ true → is_hex g ≡ true → is_hex h ≡ true
    → is_high a b ≡ true → is_low e f ≡ true
    → Leads u k Between s (92 ∷ 117 ∷ a ∷ b ∷ c ∷ d ∷ 92 ∷ 117 ∷ e ∷ f ∷ g ∷ h ∷ []) Between (s ++ encode_utf8 (paired (hex_code a b c d) (hex_code e f g h)))
pair_run u k s a b c d e f g h xa xc xd xg xh hi lo =
    begun_escape u k s (a ∷ b ∷ c ∷ d ∷ 92 ∷ 117 ∷ e ∷ f ∷ g ∷ h ∷ [])
    ∙ joined (in_string u Hex s k) (in_string u (High2 a b) s k) (a ∷ b ∷ []) (c ∷ d ∷ 92 ∷ 117 ∷ e ∷ f ∷ g ∷ h ∷ []) (high_digits u k s a b xa hi)
    ∙ high_two u k s (e ∷ f ∷ g ∷ h ∷ []) a b c d xc xd
    ∙ joined (in_string u (Low (hex_code a b c d)) s k) (in_string u (Low2 (hex_code a b c d) e f) s k) (e ∷ f ∷ []) (g ∷ h ∷ []) (low_digits u k s (hex_code a b c d) e f lo)
    ∙ low_two u k s (hex_code a b c d) e f g h xg xh

char_run : (u : Use) (k : List Frame) (s : List ℕ) {t c : List ℕ} → IsChar t c → Leads u k Between s t Between (s ++ c)
char_run u k s (plain c x l e f et es) = rw (et, es) (plain_run u k s c x l e f)
char_run u k s (short b c e et es) = rw (et, es) (short_run u k s b c e)
char_run u k s (code a b c d xa xb xc xd h l et es) = rw (et, es) (code_run u k s a b c d xa xb xc xd h l)
char_run u k s (pair a b c d e f g h xa xb xc xd xe xf xg xh hi lo et es) = rw (et, es) (pair_run u k s a b c d e f g h xa xc xd xg xh hi lo)

-- characters lead from one place between characters to another
pub chars_run : (u : Use) (k : List Frame) {t s : List ℕ} → AreChars t s → after (in_string u Between [] k) t ≡ in_string u Between s k
chars_run u k no_chars = no_step _
chars_run u k (more_chars a r v c h g et es) =
    rw (et, es) (joined (in_string u Between [] k) (in_string u Between r k) a v (chars_run u k h) ∙ char_run u k r g)
