-- Lists of numbers, each by its millionths.
use Rattle.std.specs.Prelude.{ℤ, pos, ◌+ℤ◌, int_lt, List, [], ◌∷◌, if◌then◌else◌}

-- the least of a number and some more
abbrev pub least : ℤ → List ℤ → ℤ
least z [] = z
least z (x ∷ xs) = least (if int_lt x z then x else z) xs

-- the greatest of a number and some more
abbrev pub greatest : ℤ → List ℤ → ℤ
greatest z [] = z
greatest z (x ∷ xs) = greatest (if int_lt z x then x else z) xs

-- all of them together
abbrev pub total : List ℤ → ℤ
total [] = pos 0
total (z ∷ zs) = z +ℤ total zs
