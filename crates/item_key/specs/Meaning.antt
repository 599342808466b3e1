-- What the places mean in the words of the grammar.
use Rattle.std.specs.Prelude.{◌≡◌, ℕ, List, [], ◌∷◌, ◌++◌, Option, Some, None, Bool, true}
use Rattle.item_key.specs.Grammar.{IsKeyText}
use Rattle.byte_grammar.specs.Fault.{IsViable}
use Rattle.item_key.specs.Machine.{place_of}
use Rattle.item_key.specs.declared.places.Place.{Place}

-- the answer is whether each front that leads to the place is the text of a key
pub record TellsKeys (place : Place) (answer : Bool) : Type 0 where
  pub key : (front : List ℕ) → place_of front ≡ Some place → answer ≡ true → IsKeyText front
  pub all : (front : List ℕ) → place_of front ≡ Some place → IsKeyText front → answer ≡ true

-- the answer is none exactly where no key goes on with the byte behind a front that leads to the place
pub record GoesOn (place : Place) (byte : ℕ) (answer : Option Place) : Type 0 where
  pub on : (front : List ℕ) (behind : Place) → place_of front ≡ Some place → answer ≡ Some behind
      → place_of (front ++ byte ∷ []) ≡ Some behind
  pub viable : (front : List ℕ) (behind : Place) → place_of front ≡ Some place → answer ≡ Some behind
      → IsViable IsKeyText (front ++ byte ∷ [])
  pub stops : (front : List ℕ) → place_of front ≡ Some place → answer ≡ None
      → IsViable IsKeyText (front ++ byte ∷ []) → ⊥

-- each front that leads to the place is completed to a key by these bytes
abbrev pub Completes : Place → List ℕ → Type 0
Completes place more = (front : List ℕ) → place_of front ≡ Some place → IsKeyText (front ++ more)
