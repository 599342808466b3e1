-- Places of patterns, which count from 1 (this project's own).
use Rattle.std.specs.Prelude.{ℕ, ◌+◌, List, Option, bytes_eq, position, option_map, option_and_then, unwrap_or}
use Rattle.regex.specs.Patterns.{Match}
use Rattle.zbx_types.specs.Ids.{at_id}
use Rattle.pattern_set.specs.Patterns.{leftmost}

-- the place of the first text of a list that is this one, or 0 where none is
abbrev pub place_of : List ℕ → List (List ℕ) → ℕ
place_of text texts = unwrap_or (option_map (λ index. index + 1) (position (λ other. bytes_eq other text) texts)) 0

-- the leftmost match in a text of the pattern at a place
abbrev pub match_of : List (List ℕ) → ℕ → List ℕ → Option Match
match_of patterns place text = option_and_then (λ pattern. leftmost pattern text) (at_id patterns place)
