-- What the machine takes in a string are characters of the grammar.
use Rattle.std.proofs.Common.{◌≡◌, ◌≢◌, ℕ, ◌<◌, ◌==◌, List, [], ◌∷◌, ◌++◌, refl, ap, sym, ◌∙◌, Option, Some, None, Bool, true, false, arith, nat_le, nat_lt, inl, inr, ◌⊎◌, append_assoc, subst, if◌then◌else◌}
use Rattle.std.proofs.lemmas.Bool.Decides.{nat_tests}
use Rattle.std.proofs.lemmas.Str.{encode_ascii}
use Rattle.std.specs.Char.{encode_utf8}
use lib.Utf8.{low_scalar}
use Rattle.json_text.specs.Bytes.{is_hex, hex_value, hex_code, is_high, is_low, paired, short_escape}
use Rattle.json_text.specs.Grammar.{IsChar, plain, short, code, pair, AreChars, more_chars}
use Rattle.byte_grammar.specs.Bytes.{Each}
use Rattle.byte_grammar.specs.Runs.{run}
use Rattle.byte_grammar.specs.Utf8.{follow, is_whole}
use Rattle.byte_grammar.specs.declared.characters.Character.{Character}
use Rattle.byte_grammar.specs.declared.characters.Character.TheVariants.{Whole, One, Two, Three, BehindE0, BehindEd, BehindF0, BehindF4}
use Rattle.byte_grammar.proofs.Bytes.{each_one, each_snoc}
use Rattle.byte_grammar.proofs.Runs.{grown, byte_end}
use Rattle.byte_grammar.proofs.Utf8Texts.{taken_text}
use Rattle.byte_grammar.proofs.Utf8Meaning.{is_high as is_high_byte, open_high}
use Rattle.json_text.specs.Tokens.{spot, on, if_hex, string_step, at_character, character_on, escaped_on}
use Rattle.json_text.specs.declared.string.Spot.{Spot}
use Rattle.json_text.specs.declared.string.InString.{InString}
use Rattle.json_text.specs.declared.string.InString.TheVariants.{Between, Within, Escaped, Hex, Hex1, HexD, Hex2, Hex3, High2, High3, High, HighSlash, Low, LowD, Low2, Low3}
use Rattle.json_text.proofs.CharBytes.{wide_text, decide}

pub chosen : {A : Type 0} (c : Bool) (x y z : A) → (if c then x else y) ≡ z → ((c ≡ true) × (x ≡ z)) ⊎ ((c ≡ false) × (y ≡ z))
chosen true x y z h = inl (refl, h)
chosen false x y z h = inr (refl, h)

-- characters that stand for s, and some bytes of one more
pub record Behind (w q s : List ℕ) : Type 0 where
  pub u : List ℕ
  pub chars : AreChars u s
  pub parts : q ≡ u ++ w

-- a high surrogate and some bytes behind it
pub record Pairing (h : ℕ) (w q s : List ℕ) : Type 0 where
  pub a : ℕ
  pub b : ℕ
  pub c : ℕ
  pub d : ℕ
  pub hex_a : is_hex a ≡ true
  pub hex_b : is_hex b ≡ true
  pub hex_c : is_hex c ≡ true
  pub hex_d : is_hex d ≡ true
  pub high : is_high a b ≡ true
  pub is : h ≡ hex_code a b c d
  pub behind : Behind (92 ∷ 117 ∷ a ∷ b ∷ c ∷ d ∷ w) q s

-- bytes of characters of two bytes or more, the last of which isn't whole
pub record Wanting (c : Character) (q s : List ℕ) : Type 0 where
  pub u : List ℕ
  pub t : List ℕ
  pub p : List ℕ
  pub chars : AreChars u t
  pub high : Each is_high_byte p
  pub leads : run follow (Some Whole) p ≡ Some c
  pub more : is_whole c ≡ false
  pub parts : q ≡ u ++ p
  pub text : s ≡ t ++ p

-- what stands behind the opening quote, by the place that it leads to and the bytes that it stands for so far
abbrev pub InChars : InString → List ℕ → List ℕ → Type 0
InChars Between q s = AreChars q s
InChars (Within c) q s = Wanting c q s
InChars Escaped q s = Behind (92 ∷ []) q s
InChars Hex q s = Behind (92 ∷ 117 ∷ []) q s
InChars (Hex1 a) q s = Behind (92 ∷ 117 ∷ a ∷ []) q s × (is_hex a ≡ true) × ((hex_value a == 13) ≡ false)
InChars (HexD a) q s = Behind (92 ∷ 117 ∷ a ∷ []) q s × (is_hex a ≡ true) × ((hex_value a == 13) ≡ true)
InChars (Hex2 a b) q s = Behind (92 ∷ 117 ∷ a ∷ b ∷ []) q s × (is_hex a ≡ true) × (is_hex b ≡ true) × (is_high a b ≡ false) × (is_low a b ≡ false)
InChars (Hex3 a b c) q s = Behind (92 ∷ 117 ∷ a ∷ b ∷ c ∷ []) q s × (is_hex a ≡ true) × (is_hex b ≡ true) × (is_high a b ≡ false) × (is_low a b ≡ false) × (is_hex c ≡ true)
InChars (High2 a b) q s = Behind (92 ∷ 117 ∷ a ∷ b ∷ []) q s × (is_hex a ≡ true) × (is_hex b ≡ true) × (is_high a b ≡ true)
InChars (High3 a b c) q s = Behind (92 ∷ 117 ∷ a ∷ b ∷ c ∷ []) q s × (is_hex a ≡ true) × (is_hex b ≡ true) × (is_high a b ≡ true) × (is_hex c ≡ true)
InChars (High h) q s = Pairing h [] q s
InChars (HighSlash h) q s = Pairing h (92 ∷ []) q s
InChars (Low h) q s = Pairing h (92 ∷ 117 ∷ []) q s
InChars (LowD h e) q s = Pairing h (92 ∷ 117 ∷ e ∷ []) q s × ((hex_value e == 13) ≡ true)
InChars (Low2 h e f) q s = Pairing h (92 ∷ 117 ∷ e ∷ f ∷ []) q s × (is_hex e ≡ true) × (is_hex f ≡ true) × (is_low e f ≡ true)
InChars (Low3 h e f g) q s = Pairing h (92 ∷ 117 ∷ e ∷ f ∷ g ∷ []) q s × (is_hex e ≡ true) × (is_hex f ≡ true) × (is_low e f ≡ true) × (is_hex g ≡ true)

-- one byte more of the character
more : (w q s : List ℕ) (b : ℕ) → Behind w q s → Behind (w ++ b ∷ []) (q ++ b ∷ []) s
more w q s b h = record { u = h.u; chars = h.chars; parts = ap (λ (v : List ℕ). v ++ b ∷ []) h.parts ∙ append_assoc h.u w (b ∷ []) }

more_pair : (h : ℕ) (w q s : List ℕ) (b : ℕ) → Pairing h w q s → Pairing h (w ++ b ∷ []) (q ++ b ∷ []) s
more_pair h w q s b p = record {
  a = p.a;
  b = p.b;
  c = p.c;
  d = p.d;
  hex_a = p.hex_a;
  hex_b = p.hex_b;
  hex_c = p.hex_c;
  hex_d = p.hex_d;
  high = p.high;
  is = p.is;
  behind = more (92 ∷ 117 ∷ p.a ∷ p.b ∷ p.c ∷ p.d ∷ w) q s b p.behind;
}

-- the last byte of the character
whole : (w q s c : List ℕ) (b : ℕ) → Behind w q s → IsChar (w ++ b ∷ []) c → AreChars (q ++ b ∷ []) (s ++ c)
whole w q s c b h g = more_chars h.u s (w ++ b ∷ []) c h.chars g (ap (λ (v : List ℕ). v ++ b ∷ []) h.parts ∙ append_assoc h.u w (b ∷ [])) refl

-- a place that was led to
abbrev At : Spot → List ℕ → Type 0
At at q = InChars at.place q at.text

landed : (p : InString) (q s : List ℕ) (at : Spot) → on p s ≡ Some at → InChars p q s → At at q
landed p q s at e h = let g : spot p s ≡ at = cc in subst (λ (z : Spot). At z q) g h

nowhere : (at : Spot) (q : List ℕ) → None ≡ Some at → At at q
nowhere at q e = absurd cc

-- a hexadecimal digit that leads to a place
hex_landed : (b : ℕ) (p : InString) (q s : List ℕ) (at : Spot) → if_hex b p s ≡ Some at → (is_hex b ≡ true → InChars p q s) → At at q
hex_landed b p q s at e h = elim (chosen (is_hex b) (on p s) None (Some at) e) [
  | inl z ↦ landed p q s at z.1 (h z.0)
  | inr z ↦ nowhere at q z.1
]

-- ---- bytes as they are

ascii_char : (b : ℕ) → (b == 34) ≡ false → (b == 92) ≡ false → nat_lt b 32 ≡ false → nat_lt b 128 ≡ true → IsChar (b ∷ []) (b ∷ [])
ascii_char b e f g h =
    let l : b < 128 = grind (arith, nat_tests) in
    plain b (low_scalar b (omega arith)) (grind (arith, nat_tests)) (differ b 34 e) (differ b 92 f) (sym (encode_ascii b l)) (sym (encode_ascii b l))
  where
    differ : (b n : ℕ) → (b == n) ≡ false → b ≢ n
    differ b n e = λ f. grind (arith, nat_tests)

-- the place that a character leads to, by bytes that are whole characters and those of the last ones
character_at : (c : Character) (q s u t p : List ℕ) → AreChars u t → Each is_high_byte p → run follow (Some Whole) p ≡ Some c → q ≡ u ++ p → s ≡ t ++ p → InChars (at_character c) q s
character_at Whole q s u t p w h e f g = rw (f, g) (wide_text p u t (taken_text p e) h w)
character_at One q s u t p w h e f g = record { u = u; t = t; p = p; chars = w; high = h; leads = e; more = refl; parts = f; text = g }
character_at Two q s u t p w h e f g = record { u = u; t = t; p = p; chars = w; high = h; leads = e; more = refl; parts = f; text = g }
character_at Three q s u t p w h e f g = record { u = u; t = t; p = p; chars = w; high = h; leads = e; more = refl; parts = f; text = g }
character_at BehindE0 q s u t p w h e f g = record { u = u; t = t; p = p; chars = w; high = h; leads = e; more = refl; parts = f; text = g }
character_at BehindEd q s u t p w h e f g = record { u = u; t = t; p = p; chars = w; high = h; leads = e; more = refl; parts = f; text = g }
character_at BehindF0 q s u t p w h e f g = record { u = u; t = t; p = p; chars = w; high = h; leads = e; more = refl; parts = f; text = g }
character_at BehindF4 q s u t p w h e f g = record { u = u; t = t; p = p; chars = w; high = h; leads = e; more = refl; parts = f; text = g }

character_landed : (o : Option Character) (q s : List ℕ) (b : ℕ) (at : Spot) → ((d : Character) → o ≡ Some d → InChars (at_character d) (q ++ b ∷ []) (s ++ b ∷ [])) → character_on o (s ++ b ∷ []) ≡ Some at → At at (q ++ b ∷ [])
character_landed None q s b at f h = nowhere at (q ++ b ∷ []) h
character_landed (Some d) q s b at f h = landed (at_character d) (q ++ b ∷ []) (s ++ b ∷ []) at h (f d refl)

ascii_follow : (b : ℕ) → nat_lt b 128 ≡ true → follow Whole b ≡ Some Whole
ascii_follow b h = rw h refl

ascii_at : (q s : List ℕ) (b : ℕ) (d : Character) → AreChars q s → IsChar (b ∷ []) (b ∷ []) → nat_lt b 128 ≡ true → follow Whole b ≡ Some d → InChars (at_character d) (q ++ b ∷ []) (s ++ b ∷ [])
ascii_at q s b d c i l e =
    let f : Some Whole ≡ Some d = sym (ascii_follow b l) ∙ e in
    let g : Whole ≡ d = cc in
    subst (λ (z : Character). InChars (at_character z) (q ++ b ∷ []) (s ++ b ∷ [])) g (more_chars q s (b ∷ []) (b ∷ []) c i refl refl)

lead_at : (q s : List ℕ) (b : ℕ) (d : Character) → AreChars q s → nat_lt b 128 ≡ false → follow Whole b ≡ Some d → InChars (at_character d) (q ++ b ∷ []) (s ++ b ∷ [])
lead_at q s b d c n e = character_at d (q ++ b ∷ []) (s ++ b ∷ []) q s (b ∷ []) c (each_one is_high_byte b (grind (arith, nat_tests))) (byte_end follow Whole d b e) refl refl

between_sound : (q s : List ℕ) (b : ℕ) (at : Spot) → AreChars q s → string_step Between s b ≡ Some at → At at (q ++ b ∷ [])
between_sound q s b at c h = elim (chosen (b == 34) _ _ (Some at) h) [
  | inl z ↦ nowhere at _ z.1
  | inr z ↦ elim (chosen (b == 92) _ _ (Some at) z.1) [
    | inl y ↦ let g : b ≡ 92 = grind (arith, nat_tests, y.0) in rw g (landed Escaped (q ++ 92 ∷ []) s at y.1 (record { u = q; chars = c; parts = refl }))
    | inr y ↦ elim (chosen (nat_lt b 32) _ _ (Some at) y.1) [
      | inl x ↦ nowhere at _ x.1
      | inr x ↦ elim (decide (nat_lt b 128)) [
        | inl w ↦ character_landed (follow Whole b) q s b at (λ d e. ascii_at q s b d c (ascii_char b z.0 y.0 x.0 w) w e) x.1
        | inr w ↦ character_landed (follow Whole b) q s b at (λ d e. lead_at q s b d c w e) x.1
      ]
    ]
  ]
]

within_sound : (c : Character) (q s : List ℕ) (b : ℕ) (at : Spot) → Wanting c q s → character_on (follow c b) (s ++ b ∷ []) ≡ Some at → At at (q ++ b ∷ [])
within_sound c q s b at w h = character_landed (follow c b) q s b at (λ d e.
    character_at d (q ++ b ∷ []) (s ++ b ∷ []) w.u w.t (w.p ++ b ∷ []) w.chars (each_snoc is_high_byte w.p b w.high (open_high c d b w.more e)) (grown follow (Some Whole) c w.p b w.leads ∙ e)
    (ap (λ (v : List ℕ). v ++ b ∷ []) w.parts ∙ append_assoc w.u w.p (b ∷ [])) (ap (λ (v : List ℕ). v ++ b ∷ []) w.text ∙ append_assoc w.t w.p (b ∷ []))) h

-- ---- escapes

escaped_landed : (o : Option ℕ) (q s : List ℕ) (b : ℕ) (at : Spot) → short_escape b ≡ o → Behind (92 ∷ []) q s → escaped_on o s ≡ Some at → At at (q ++ b ∷ [])
escaped_landed None q s b at e w h = nowhere at _ h
escaped_landed (Some c) q s b at e w h = landed Between (q ++ b ∷ []) (s ++ c ∷ []) at h (whole (92 ∷ []) q s (c ∷ []) b w (short b c e refl refl))

escape_sound : (q s : List ℕ) (b : ℕ) (at : Spot) → Behind (92 ∷ []) q s → string_step Escaped s b ≡ Some at → At at (q ++ b ∷ [])
escape_sound q s b at w h = elim (chosen (b == 117) _ _ (Some at) h) [
  | inl z ↦ let g : b ≡ 117 = grind (arith, nat_tests, z.0) in rw g (landed Hex (q ++ 117 ∷ []) s at z.1 (more (92 ∷ []) q s 117 w))
  | inr z ↦ escaped_landed (short_escape b) q s b at refl w z.1
]

first_place : (t : Bool) (b : ℕ) (q s : List ℕ) → (hex_value b == 13) ≡ t → is_hex b ≡ true → Behind (92 ∷ 117 ∷ []) q s → InChars (if t then HexD b else Hex1 b) (q ++ b ∷ []) s
first_place true b q s e x w = (more (92 ∷ 117 ∷ []) q s b w, x, e)
first_place false b q s e x w = (more (92 ∷ 117 ∷ []) q s b w, x, e)

no_d : (a b : ℕ) → (hex_value a == 13) ≡ false → (is_high a b ≡ false) × (is_low a b ≡ false)
no_d a b e = (rw e refl, rw e refl)

below_eight : (a b : ℕ) → nat_lt (hex_value b) 8 ≡ true → (is_high a b ≡ false) × (is_low a b ≡ false)
below_eight a b e = by_digit (hex_value a == 13) (hex_value b) e
  where
    by_digit : (t : Bool) (v : ℕ) → nat_lt v 8 ≡ true
        → ((if t then (if nat_le 8 v then nat_lt v 12 else false) else false) ≡ false) × ((if t then nat_le 12 v else false) ≡ false)
    by_digit true v e = (grind (arith, nat_tests), grind (arith, nat_tests))
    by_digit false v e = (refl, refl)

from_eight : (a b : ℕ) → (hex_value a == 13) ≡ true → nat_lt (hex_value b) 8 ≡ false → nat_lt (hex_value b) 12 ≡ true → is_high a b ≡ true
from_eight a b e f g = let x : nat_le 8 (hex_value b) ≡ true = le (hex_value b) f in rw (e, x, g) refl
  where
    le : (v : ℕ) → nat_lt v 8 ≡ false → nat_le 8 v ≡ true
    le v h = grind (arith, nat_tests)

from_twelve : (a b : ℕ) → (hex_value a == 13) ≡ true → nat_lt (hex_value b) 12 ≡ false → is_low a b ≡ true
from_twelve a b e f = let x : nat_le 12 (hex_value b) ≡ true = le (hex_value b) f in rw (e, x) refl
  where
    le : (v : ℕ) → nat_lt v 12 ≡ false → nat_le 12 v ≡ true
    le v h = grind (arith, nat_tests)

-- another byte than a digit has the value 0
hex_of_value : (b : ℕ) → 0 < hex_value b → is_hex b ≡ true
hex_of_value b h = elim (decide (is_hex b)) [
  | inl e ↦ e
  | inr e ↦ absurd (no_value b e h)
]
  where
    no_value : (b : ℕ) → is_hex b ≡ false → 0 < hex_value b → ⊥
    no_value b e h = grind (arith, nat_tests)

hex_13 : (b : ℕ) → (hex_value b == 13) ≡ true → is_hex b ≡ true
hex_13 b e = hex_of_value b (above (hex_value b) e)
  where
    above : (v : ℕ) → (v == 13) ≡ true → 0 < v
    above v h = grind (arith, nat_tests)

hex_from : (n b : ℕ) → 0 < n → nat_lt (hex_value b) n ≡ false → is_hex b ≡ true
hex_from n b p e = hex_of_value b (above n (hex_value b) p e)
  where
    above : (n v : ℕ) → 0 < n → nat_lt v n ≡ false → 0 < v
    above n v p h = grind (arith, nat_tests)

second_sound : (a : ℕ) (q s : List ℕ) (b : ℕ) (at : Spot) → InChars (HexD a) q s → string_step (HexD a) s b ≡ Some at → At at (q ++ b ∷ [])
second_sound a q s b at w h = elim (chosen (nat_lt (hex_value b) 8) _ _ (Some at) h) [
  | inl z ↦ hex_landed b (Hex2 a b) (q ++ b ∷ []) s at z.1 (λ x. let g = below_eight a b z.0 in (more (92 ∷ 117 ∷ a ∷ []) q s b w.0, w.1, x, g.0, g.1))
  | inr z ↦ elim (chosen (nat_lt (hex_value b) 12) _ _ (Some at) z.1) [
    | inl y ↦ landed (High2 a b) (q ++ b ∷ []) s at y.1 (more (92 ∷ 117 ∷ a ∷ []) q s b w.0, w.1, hex_from 8 b (omega arith) z.0, from_eight a b w.2 z.0 y.0)
    | inr y ↦ nowhere at _ y.1
  ]
]

high_sound : (a b c : ℕ) (q s : List ℕ) (d : ℕ) (at : Spot) → InChars (High3 a b c) q s → string_step (High3 a b c) s d ≡ Some at → At at (q ++ d ∷ [])
high_sound a b c q s d at w h = hex_landed d (High (hex_code a b c d)) (q ++ d ∷ []) s at h (λ x. record {
  a = a;
  b = b;
  c = c;
  d = d;
  hex_a = w.1;
  hex_b = w.2;
  hex_c = w.4;
  hex_d = x;
  high = w.3;
  is = refl;
  behind = more (92 ∷ 117 ∷ a ∷ b ∷ c ∷ []) q s d w.0;
})

last_sound : (h e f g : ℕ) (q s : List ℕ) (b : ℕ) (at : Spot) → InChars (Low3 h e f g) q s → string_step (Low3 h e f g) s b ≡ Some at → At at (q ++ b ∷ [])
last_sound h e f g q s b at w i = hex_landed b Between (q ++ b ∷ []) (s ++ encode_utf8 (paired h (hex_code e f g b))) at i
    (λ x. let p = w.0 in whole (92 ∷ 117 ∷ p.a ∷ p.b ∷ p.c ∷ p.d ∷ 92 ∷ 117 ∷ e ∷ f ∷ g ∷ []) q s (encode_utf8 (paired h (hex_code e f g b))) b p.behind
    (pair p.a p.b p.c p.d e f g b p.hex_a p.hex_b p.hex_c p.hex_d w.1 w.2 w.4 x p.high w.3 refl (ap (λ (v : ℕ). encode_utf8 (paired v (hex_code e f g b))) p.is)))

-- one byte more
pub string_sound : (p : InString) (q s : List ℕ) (b : ℕ) (at : Spot) → InChars p q s → string_step p s b ≡ Some at → InChars at.place (q ++ b ∷ []) at.text
string_sound Between q s b at w h = between_sound q s b at w h
string_sound (Within c) q s b at w h = within_sound c q s b at w h
string_sound Escaped q s b at w h = escape_sound q s b at w h
string_sound Hex q s b at w h = hex_landed b (if hex_value b == 13 then HexD b else Hex1 b) (q ++ b ∷ []) s at h (λ x. first_place (hex_value b == 13) b q s refl x w)
string_sound (Hex1 a) q s b at w h = hex_landed b (Hex2 a b) (q ++ b ∷ []) s at h (λ x. let g = no_d a b w.2 in (more (92 ∷ 117 ∷ a ∷ []) q s b w.0, w.1, x, g.0, g.1))
string_sound (HexD a) q s b at w h = second_sound a q s b at w h
string_sound (Hex2 a b) q s c at w h = hex_landed c (Hex3 a b c) (q ++ c ∷ []) s at h (λ x. (more (92 ∷ 117 ∷ a ∷ b ∷ []) q s c w.0, w.1, w.2, w.3, w.4, x))
string_sound (Hex3 a b c) q s d at w h = hex_landed d Between (q ++ d ∷ []) (s ++ encode_utf8 (hex_code a b c d)) at h
    (λ x. whole (92 ∷ 117 ∷ a ∷ b ∷ c ∷ []) q s (encode_utf8 (hex_code a b c d)) d w.0 (code a b c d w.1 w.2 w.5 x w.3 w.4 refl refl))
string_sound (High2 a b) q s c at w h = hex_landed c (High3 a b c) (q ++ c ∷ []) s at h (λ x. (more (92 ∷ 117 ∷ a ∷ b ∷ []) q s c w.0, w.1, w.2, w.3, x))
string_sound (High3 a b c) q s d at w h = high_sound a b c q s d at w h
string_sound (High n) q s b at w h = elim (chosen (b == 92) _ _ (Some at) h) [
  | inl z ↦ let g : b ≡ 92 = grind (arith, nat_tests, z.0) in rw g (landed (HighSlash n) (q ++ 92 ∷ []) s at z.1 (more_pair n [] q s 92 w))
  | inr z ↦ nowhere at _ z.1
]
string_sound (HighSlash n) q s b at w h = elim (chosen (b == 117) _ _ (Some at) h) [
  | inl z ↦ let g : b ≡ 117 = grind (arith, nat_tests, z.0) in rw g (landed (Low n) (q ++ 117 ∷ []) s at z.1 (more_pair n (92 ∷ []) q s 117 w))
  | inr z ↦ nowhere at _ z.1
]
string_sound (Low n) q s b at w h = elim (chosen (hex_value b == 13) _ _ (Some at) h) [
  | inl z ↦ landed (LowD n b) (q ++ b ∷ []) s at z.1 (more_pair n (92 ∷ 117 ∷ []) q s b w, z.0)
  | inr z ↦ nowhere at _ z.1
]
string_sound (LowD n e) q s b at w h = elim (chosen (nat_lt (hex_value b) 12) _ _ (Some at) h) [
  | inl z ↦ nowhere at _ z.1
  | inr z ↦ landed (Low2 n e b) (q ++ b ∷ []) s at z.1 (more_pair n (92 ∷ 117 ∷ e ∷ []) q s b w.0, hex_13 e w.1, hex_from 12 b (omega arith) z.0, from_twelve e b w.1 z.0)
]
string_sound (Low2 n e f) q s b at w h = hex_landed b (Low3 n e f b) (q ++ b ∷ []) s at h (λ x. (more_pair n (92 ∷ 117 ∷ e ∷ f ∷ []) q s b w.0, w.1, w.2, w.3, x))
string_sound (Low3 n e f g) q s b at w h = last_sound n e f g q s b at w h
