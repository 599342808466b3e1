-- What a text means as a pattern, by the grammar of the `regex` crate, and where it matches (this project's own).
use Rattle.std.specs.Prelude.{◌≡◌, ◌⊎◌, ◌<◌, ◌≤◌, ℕ, List, Option, None, option_map, option_and_then, IfSome, IsSomeAnd, chars}
use Rattle.regex_syntax.specs.Grammar.{read}
use Rattle.regex.specs.Patterns.{Re, Match, find_str, default_config}

-- the grammar reads the text, and it nests no deeper than is allowed
abbrev pub IsPattern : List ℕ → Type 0
IsPattern text = IsSomeAnd (read default_config (chars text)) (λ (found, _). found.depth ≤ default_config.nest_limit)

-- the grammar doesn't read the text, or it nests too deeply
abbrev pub IsNoPattern : List ℕ → Type 0
IsNoPattern text =
    (read default_config (chars text) ≡ None)
    ⊎ IfSome (read default_config (chars text)) (λ (found, _). default_config.nest_limit < found.depth)

-- what the text stands for
abbrev pub pattern_of : List ℕ → Option Re
pattern_of text = option_map (λ (found, _). found.value) (read default_config (chars text))

-- the leftmost match of a pattern in a text
abbrev pub leftmost : List ℕ → List ℕ → Option Match
leftmost pattern text = option_and_then (λ re. find_str re text 0) (pattern_of pattern)
