-- The words of a script's lines: parts, numbers, moments and hexadecimal texts.
use Rattle.std.specs.Prelude.{ℕ, ◌+◌, ◌-◌, ◌*◌, nat_le, nat_eq, Bool, ◌&&◌, ◌==◌, List, [], ◌∷◌, length, take, drop, Option, Some, None, if◌then◌else◌}
use Rattle.std.specs.Char.{is_ascii_digit}
use Rattle.std.specs.List.{position}
use Rattle.std.specs.Option.{option_map, option_and_then}
use Rattle.std.specs.Cmp.Lexicographic.{pointwise}
use Rattle.zbx_types.specs.Numerals.{number_up_to}

-- what stands before and behind the first such byte
unfoldable pub parted : ℕ → List ℕ → Option (List ℕ × List ℕ)
parted c text = option_map (λ i. (take i text, drop (i + 1) text)) (position (λ b. b == c) text)

-- the text is this word
abbrev pub is_text : List ℕ → List ℕ → Bool
is_text text word = pointwise nat_eq text word

-- the nanoseconds behind the point: nine digits
unfoldable pub nanos_of : List ℕ → Option ℕ
nanos_of text = if length text == 9 then number_up_to 999999999 text else None

-- a moment in nanoseconds: seconds, a point and nine digits
unfoldable pub moment_of : List ℕ → Option ℕ
moment_of text = option_and_then (λ parts. option_and_then (λ sec. option_map (λ ns. sec * 1000000000 + ns) (nanos_of parts.1)) (number_up_to 4294967295 parts.0)) (parted 46 text)

-- the number of a connection
abbrev pub connection_of : List ℕ → Option ℕ
connection_of text = number_up_to 18446744073709551615 text

-- the value of a lower-case hexadecimal digit
abbrev pub nibble_of : ℕ → Option ℕ
nibble_of c = if is_ascii_digit c then Some (c - 48) else if nat_le 97 c && nat_le c 102 then Some (c - 87) else None

-- the byte of two such digits
abbrev pub byte_of : ℕ → ℕ → Option ℕ
byte_of high low = option_and_then (λ h. option_map (λ l. h * 16 + l) (nibble_of low)) (nibble_of high)

-- the bytes that pairs of such digits write
unfoldable pub bytes_of_hex : List ℕ → Option (List ℕ)
bytes_of_hex [] = Some []
bytes_of_hex (digit ∷ []) = None
bytes_of_hex (high ∷ low ∷ rest) = option_and_then (λ byte. option_map (λ bytes. byte ∷ bytes) (bytes_of_hex rest)) (byte_of high low)
