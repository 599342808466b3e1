-- Ids, which count from 1.
use Rattle.std.specs.Prelude.{ℕ, ◌-◌, ◌+◌, ◌==◌, List, [], ◌∷◌, Option, None, if◌then◌else◌, slice_get}

-- the item of a list with this id
unfoldable pub at_id : {A : Type 0} → List A → ℕ → Option A
at_id items id = if id == 0 then None else slice_get items (id - 1)

-- the ids of a list's items, from this one on
abbrev pub ids_from : {A : Type 0} → ℕ → List A → List ℕ
ids_from id [] = []
ids_from id (x ∷ xs) = id ∷ ids_from (id + 1) xs
