-- Tests on bytes.
use Rattle.std.specs.Prelude.{◌≡◌, ℕ, List, [], ◌∷◌, Bool, true, false, ◌==◌, nat_le, if◌then◌else◌}

-- the byte of a space
abbrev pub is_space : ℕ → Bool
is_space b = b == 32

-- `0` to `9`
abbrev pub is_digit : ℕ → Bool
is_digit b = if nat_le 48 b then nat_le b 57 else false

-- `1` to `9`
abbrev pub is_nonzero_digit : ℕ → Bool
is_nonzero_digit b = if nat_le 49 b then nat_le b 57 else false

-- `e` or `E`
abbrev pub is_e : ℕ → Bool
is_e b = if b == 101 then true else b == 69

-- each byte passes the test
unfoldable pub Each : (ℕ → Bool) → List ℕ → Type 0
Each test [] = Unit {0}
Each test (b ∷ bs) = (test b ≡ true) × Each test bs
