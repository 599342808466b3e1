-- What is gathered of a list, item by item.
use Rattle.std.proofs.Common.{◌≡◌, List, [], ◌∷◌, Option, Some, None, refl}
use Rattle.std.specs.Prelude.{fold}
use Rattle.std.specs.List.{reduce}
use Rattle.escalations.specs.Steps.{with_first}

-- what f makes of a first item, where there is one, and a list
abbrev pub gathered : {A : Type 0} → (A → A → A) → Option A → List A → Option A
gathered f None xs = reduce f xs
gathered f (Some a) xs = Some (fold f a xs)

pub gathered-cons : {A : Type 0} (f : A → A → A) (first : Option A) (x : A) (xs : List A) → gathered f first (x ∷ xs) ≡ gathered f (Some (with_first f first x)) xs
gathered-cons f None x xs = refl
gathered-cons f (Some a) x xs = refl

pub gathered-nil : {A : Type 0} (f : A → A → A) (first : Option A) → gathered f first [] ≡ first
gathered-nil f None = refl
gathered-nil f (Some a) = refl
