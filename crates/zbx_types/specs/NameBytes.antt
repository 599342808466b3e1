-- The bytes of names.
use Rattle.std.specs.Prelude.{ℕ, Bool, ◌||◌, ◌==◌}
use Rattle.std.specs.Char.{is_ascii_alphanumeric, is_ascii_uppercase, is_ascii_digit}

-- in the name of a host or template: letters, digits, space, `_`, `-`, `.`
abbrev pub is_host_name_byte : ℕ → Bool
is_host_name_byte c = is_ascii_alphanumeric c || c == 32 || c == 95 || c == 45 || c == 46

-- in the name of a user macro: A to Z, 0 to 9, `_`, `.`
abbrev pub is_macro_name_byte : ℕ → Bool
is_macro_name_byte c = is_ascii_uppercase c || is_ascii_digit c || c == 95 || c == 46
