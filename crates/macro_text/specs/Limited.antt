-- Texts whose replacing stops at a limit.
use Rattle.std.specs.Prelude.{◌≡◌, ◌<◌, ◌≤◌, nat_le, ℕ, List, length, take, if◌then◌else◌}
use Rattle.std.specs.Fmt.Cut.{floor_char_boundary}
use Rattle.macro_text.specs.declared.limited.Expansion.{Expansion}
use Rattle.macro_text.specs.declared.limited.Expansion.TheVariants.{Whole, Longer}

-- a whole text is all of it, within the limit; of a longer one it is the front that the limit allows
abbrev pub IsExpansion : Expansion → List ℕ → ℕ → Type 0
IsExpansion (Whole made) text most = (made ≡ text) × (length text ≤ most)
IsExpansion (Longer front) text most = (front ≡ take most text) × (most < length text)

-- the longest front of whole characters that has at most so many bytes
unfoldable pub whole_front : ℕ → List ℕ → List ℕ
whole_front most text = if nat_le (length text) most then text else take (floor_char_boundary text most) text
