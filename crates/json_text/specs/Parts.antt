-- A list in two parts.
use Rattle.std.specs.Prelude.{◌≡◌, List, [], ◌∷◌, ◌++◌, Option, Some, None}

-- the first item was taken out, none where there is none
abbrev pub IsPopped : {A : Type 0} → List A → Option A → List A → Type 0
IsPopped old None new = (old ≡ []) × (new ≡ [])
IsPopped old (Some x) new = old ≡ x ∷ new

-- the second list begins with the first
abbrev pub IsGrown : {A : Type 0} → List A → List A → Type 0
IsGrown {A = A} old new = (more : List A) × (new ≡ old ++ more)
