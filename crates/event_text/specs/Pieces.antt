-- Texts with macros: a macro begins with `{`, and every other byte stays (the Zabbix 6.0 manual, "Macros").
use Rattle.std.specs.Prelude.{◌≡◌, ◌≢◌, ◌<◌, ℕ, zero, suc, ◌-◌, ◌==◌, nat_eq, nat_lt, List, [], ◌∷◌, ◌++◌, length, drop, slice_index, Option, Some, None, if◌then◌else◌}
use Rattle.std.specs.Option.{option_map_or}
use Rattle.std.specs.List.{starts_with}

-- what stands behind a word, where a text begins with it
unfoldable pub behind : List ℕ → List ℕ → Option (List ℕ)
behind word text = if starts_with nat_eq text word then Some (drop (length word) text) else None

-- the first byte of a text where it is an ASCII character, and what stands behind it
abbrev pub ascii_first : List ℕ → Option (ℕ × List ℕ)
ascii_first [] = None
ascii_first (c ∷ rest) = if nat_lt c 128 then Some (c, rest) else None

-- the macro that a byte opens, and what follows it
abbrev pub opened : {A : Type 0} → (List ℕ → Option (A × List ℕ)) → ℕ → List ℕ → Option (A × List ℕ)
opened macro c rest = if c == 123 then macro rest else None

-- the piece that a text begins with: the macro there, or its first byte
abbrev pub piece_at : {A : Type 0} → (ℕ → A) → (List ℕ → Option (A × List ℕ)) → ℕ → List ℕ → A
piece_at byte macro c rest = option_map_or (λ m. m.0) (opened macro c rest) (byte c)

-- how many bytes behind the first one belong to that piece
abbrev pub passed_at : {A : Type 0} → (List ℕ → Option (A × List ℕ)) → ℕ → List ℕ → ℕ
passed_at macro c rest = option_map_or (λ m. length rest - length m.1) (opened macro c rest) 0

-- the pieces of a text without its first bytes, so many, which belong to a piece before them
unfoldable pub pieces_behind : {A : Type 0} → (ℕ → A) → (List ℕ → Option (A × List ℕ)) → ℕ → List ℕ → List A
pieces_behind byte macro passed [] = []
pieces_behind byte macro (suc passed) (c ∷ rest) = pieces_behind byte macro passed rest
pieces_behind byte macro zero (c ∷ rest) = piece_at byte macro c rest ∷ pieces_behind byte macro (passed_at macro c rest) rest

-- the pieces of a text, where it is told which piece a byte is that stays, and which macro stands behind a `{`, with what
-- follows that macro
unfoldable pub pieces_in : {A : Type 0} → (ℕ → A) → (List ℕ → Option (A × List ℕ)) → List ℕ → List A
pieces_in byte macro text = pieces_behind byte macro 0 text

-- a byte stands nowhere in a text
abbrev pub HasNo : ℕ → List ℕ → Type 0
HasNo c text = (i : ℕ) → i < length text → slice_index text i ≢ c

-- a `{` and what stands behind it, where there is one
abbrev pub from_brace : Option (List ℕ) → List ℕ
from_brace None = []
from_brace (Some rest) = 123 ∷ rest

-- a text ends with another
abbrev pub EndsWith : List ℕ → List ℕ → Type 0
EndsWith text rest = (front : List ℕ) × (text ≡ front ++ rest)
