-- Kinds of bytes in JSON texts (RFC 8259, "JSON Grammar", "Numbers" and "Strings").
use Rattle.std.specs.Prelude.{ℕ, ◌+◌, ◌*◌, ◌-◌, ◌%◌, List, Bool, true, false, ◌==◌, nat_le, nat_lt}
use Rattle.std.specs.Prelude.{if◌then◌else◌, Option, Some, None}
use Rattle.byte_grammar.specs.Bytes.{Each, is_digit}

-- a space, a tab, a line feed or a carriage return
abbrev pub is_blank : ℕ → Bool
is_blank b = if b == 32 then true else if b == 9 then true else if b == 10 then true else b == 13

-- `+` or `-`
abbrev pub is_sign : ℕ → Bool
is_sign b = if b == 43 then true else b == 45

-- a hexadecimal digit, `0` to `9`, `a` to `f` or `A` to `F`
abbrev pub is_hex : ℕ → Bool
is_hex b = if is_digit b then true else if nat_le 97 b then nat_le b 102 else if nat_le 65 b then nat_le b 70
    else false

-- the value of a hexadecimal digit, 0 for another byte
abbrev pub hex_value : ℕ → ℕ
hex_value b = if is_digit b then b - 48 else if (if nat_le 97 b then nat_le b 102 else false) then b - 87
    else if (if nat_le 65 b then nat_le b 70 else false) then b - 55 else 0

-- the number that four hexadecimal digits stand for
abbrev pub hex_code : ℕ → ℕ → ℕ → ℕ → ℕ
hex_code a b c d = hex_value a * 4096 + hex_value b * 256 + hex_value c * 16 + hex_value d

-- D800 to DBFF, by the first two digits
abbrev pub is_high : ℕ → ℕ → Bool
is_high a b = if hex_value a == 13 then (if nat_le 8 (hex_value b) then nat_lt (hex_value b) 12 else false) else false

-- DC00 to DFFF, by the first two digits
abbrev pub is_low : ℕ → ℕ → Bool
is_low a b = if hex_value a == 13 then nat_le 12 (hex_value b) else false

-- the character of a high and a low surrogate: ten bits of each, above 65,535
abbrev pub paired : ℕ → ℕ → ℕ
paired high low = 65536 + (high % 1024) * 1024 + low % 1024

-- what stands for a character behind a backslash, but for `u`
abbrev pub short_escape : ℕ → Option ℕ
short_escape b =
    if b == 34 then Some 34 else if b == 92 then Some 92 else if b == 47 then Some 47 else if b == 98 then Some 8
    else if b == 102 then Some 12 else if b == 110 then Some 10 else if b == 114 then Some 13
    else if b == 116 then Some 9 else None

-- each byte is a blank
abbrev pub AreBlanks : List ℕ → Type 0
AreBlanks x = Each is_blank x

-- each byte is a digit
abbrev pub AreDigits : List ℕ → Type 0
AreDigits x = Each is_digit x
