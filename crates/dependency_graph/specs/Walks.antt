-- What things lead to. Things go by their places, counted from 0; `links` has for each thing the places of those that it has
-- a link to.
use Rattle.std.specs.Prelude.{ℕ, zero, suc, nat_eq, List, [], ◌∷◌, ◌++◌, length, get_or, flat_map, if◌then◌else◌}
use Rattle.std.specs.List.{list_any}

-- each number once, where it stands first, and none of those before
abbrev pub once_behind : List ℕ → List ℕ → List ℕ
once_behind before [] = []
once_behind before (n ∷ ns) = if list_any (nat_eq n) before then once_behind before ns else n ∷ once_behind (n ∷ before) ns

-- each number once, where it stands first
abbrev pub once : List ℕ → List ℕ
once ns = once_behind [] ns

-- what some things have links to, in their order
abbrev pub linked_by : List (List ℕ) → List ℕ → List ℕ
linked_by links places = flat_map (λ t. get_or links t []) places

-- some things and, so many levels further, what they have links to
abbrev pub walked : List (List ℕ) → ℕ → List ℕ → List ℕ
walked links zero places = places
walked links (suc levels) places = walked links levels (once (places ++ linked_by links places))

-- these things and all that they lead to, level by level, each once where it is first met
unfoldable pub walk : List (List ℕ) → List ℕ → List ℕ
walk links places = walked links (length links) (once places)
