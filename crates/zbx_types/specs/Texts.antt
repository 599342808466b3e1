-- Texts in texts.
use Rattle.std.specs.Prelude.{ℕ, nat_eq, Bool, ◌||◌, List, [], ◌∷◌}
use Rattle.std.specs.List.{starts_with}

-- a text contains another one: it begins with it, or what stands behind its first byte contains it
abbrev pub contains : List ℕ → List ℕ → Bool
contains [] part = starts_with nat_eq [] part
contains (c ∷ cs) part = starts_with nat_eq (c ∷ cs) part || contains cs part
