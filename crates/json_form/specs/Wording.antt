-- Words that have a meaning.
use Rattle.std.specs.Prelude.{ℕ, List, [], ◌∷◌, Option, Some, None, if◌then◌else◌}
use Rattle.std.specs.Str.{bytes_eq}

-- what the first pair with this word has beside it
abbrev pub first_of_word : {A : Type 0} → List (List ℕ × A) → List ℕ → Option A
first_of_word [] word = None
first_of_word (p ∷ ps) word = if bytes_eq word p.0 then Some p.1 else first_of_word ps word
