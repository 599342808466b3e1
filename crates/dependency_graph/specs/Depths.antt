-- How long the chains of links are.
use Rattle.std.specs.Prelude.{ℕ, zero, suc, ◌+◌, max, List, [], ◌∷◌, length, map, get_or}
use Rattle.zbx_types.specs.Ids.{ids_from}

-- one more than the greatest of some lengths, and 0 where there are none
abbrev pub one_longer : List ℕ → ℕ
one_longer [] = 0
one_longer (n ∷ ns) = max (n + 1) (one_longer ns)

-- the length of the longest chain of links from a thing, among those of at most so many links
abbrev pub longest : List (List ℕ) → ℕ → ℕ → ℕ
longest links zero thing = 0
longest links (suc most) thing = one_longer (map (λ end. longest links most end) (get_or links thing []))

-- for each thing the length of the longest chain of links from it, among those of at most as many links as there are things
unfoldable pub depths_of : List (List ℕ) → List ℕ
depths_of links = map (longest links (length links)) (ids_from 0 links)
