-- Bytes, and points in a text.
use Rattle.std.specs.Prelude.{◌≡◌, ◌-◌, ◌+◌, ◌*◌, ℕ, zero, suc, List, [], ◌∷◌, Bool, true, ◌==◌, if◌then◌else◌}
use Rattle.byte_grammar.specs.Bytes.{is_digit}

-- space, tab, carriage return or line feed
abbrev pub is_blank : ℕ → Bool
is_blank b = if b == 32 then true else if b == 9 then true else if b == 13 then true else b == 10

-- a byte beside which a word may stand: a parenthesis or a blank
abbrev pub is_gap : ℕ → Bool
is_gap b = if b == 40 then true else if b == 41 then true else is_blank b

-- a byte that may stand behind a word
abbrev pub ends_word : ℕ → Bool
ends_word b = if b == 40 then true else is_blank b

-- blanks alone, or nothing
unfoldable pub AreBlanks : List ℕ → Type 0
AreBlanks [] = Unit {0}
AreBlanks (b ∷ bs) = (is_blank b ≡ true) × AreBlanks bs

-- digits alone, or nothing
unfoldable pub AreDigits : List ℕ → Type 0
AreDigits [] = Unit {0}
AreDigits (b ∷ bs) = (is_digit b ≡ true) × AreDigits bs

-- digits that stand for n, behind ones that stand for v
unfoldable pub Digits : ℕ → List ℕ → ℕ → Type 0
Digits v [] n = v ≡ n
Digits v (b ∷ bs) n = (is_digit b ≡ true) × Digits (v * 10 + (b - 48)) bs n

-- the first byte, 0 where there is none
abbrev pub first_byte : List ℕ → ℕ
first_byte [] = 0
first_byte (b ∷ bs) = b

-- A point in a text: how many bytes behind it are held to the limit of a key, and the byte in front of it.
pub record Point : Type 0 where
  pub held : ℕ
  pub last : ℕ

-- one less, from 0 on 0
abbrev pub one_less : ℕ → ℕ
one_less zero = zero
one_less (suc n) = n

-- the point behind these bytes
unfoldable pub behind : Point → List ℕ → Point
behind p [] = p
behind p (b ∷ bs) = behind (record { held = one_less p.held; last = b }) bs

-- The beginning of a text, of which so many bytes are held to the limit. Words may stand there, as behind `(`.
abbrev pub beginning : ℕ → Point
beginning held = record { held = held; last = 40 }
