-- What is noted on the way: of names their places, of templates their ranks.
use Rattle.std.specs.Prelude.{ℕ, ◌<◌, Bool, List, [], length, All, slice_index_or, Option, Some, None, if◌then◌else◌}
use Rattle.std.specs.Option.{option_or}

-- the place of a name with one thing more, which may have the name: the first one counts
abbrev pub noted : Option ℕ → Bool → ℕ → Option ℕ
noted before named place = option_or before (if named then Some place else None)

-- each template has a higher rank than those that it has a link to
abbrev pub Falls : List (List ℕ) → List ℕ → Type 0
Falls links ranks = (k : ℕ) → k < length links → All (λ t. slice_index_or ranks t 0 < slice_index_or ranks k 0) (slice_index_or links k [])
