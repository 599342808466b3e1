-- Lists whose items all have a property, by recursion.
use Rattle.std.specs.Prelude.{◌≡◌, ◌⊎◌, List, [], ◌∷◌}
pub use Rattle.trigger_state.specs.Each.{Each}

-- an item is in a list
abbrev pub In : {A : Type 0} → A → List A → Type 0
In x [] = ⊥
In x (y ∷ ys) = (x ≡ y) ⊎ In x ys

-- each two items of a list, the one before the other, have the property
abbrev pub EachPair : {A : Type 0} → (A → A → Type 0) → List A → Type 0
EachPair P [] = Unit {0}
EachPair P (x ∷ xs) = Each (P x) xs × EachPair P xs
