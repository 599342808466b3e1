-- Blanks around a value, which a number item drops.
use Rattle.std.specs.Prelude.{ℕ, ◌==◌, Bool, ◌||◌, List, [], ◌∷◌, reverse, if◌then◌else◌}

-- space, tab, carriage return and line feed
abbrev pub is_blank : ℕ → Bool
is_blank c = c == 32 || c == 9 || c == 13 || c == 10

-- a text without the blanks that it begins with
abbrev pub without_front : List ℕ → List ℕ
without_front [] = []
without_front (c ∷ rest) = if is_blank c then without_front rest else c ∷ rest

-- a text without the blanks that it ends with
abbrev pub without_back : List ℕ → List ℕ
without_back text = reverse (without_front (reverse text))

-- a text without the blanks at both ends
unfoldable pub unpadded : List ℕ → List ℕ
unpadded text = without_back (without_front text)
