-- What the characters mean in the words of UTF-8.
use Rattle.std.specs.Prelude.{◌≡◌, ℕ, List, [], ◌∷◌, ◌++◌, Option, Some, None, Bool, true, IsUtf8}
use Rattle.byte_grammar.specs.Fault.{IsViable}
use Rattle.byte_grammar.specs.Utf8.{character_of}
use Rattle.byte_grammar.specs.declared.characters.Character.{Character}

-- the answer is none exactly where no text in UTF-8 goes on with the byte behind a front that asks for this
pub record GoesOn (character : Character) (byte : ℕ) (answer : Option Character) : Type 0 where
  pub on : (front : List ℕ) (behind : Character) → character_of front ≡ Some character → answer ≡ Some behind
      → character_of (front ++ byte ∷ []) ≡ Some behind
  pub viable : (front : List ℕ) (behind : Character) → character_of front ≡ Some character → answer ≡ Some behind
      → IsViable IsUtf8 (front ++ byte ∷ [])
  pub stops : (front : List ℕ) → character_of front ≡ Some character → answer ≡ None
      → IsViable IsUtf8 (front ++ byte ∷ []) → ⊥

-- the answer is whether each front that asks for this is UTF-8
pub record TellsUtf8 (character : Character) (answer : Bool) : Type 0 where
  pub text : (front : List ℕ) → character_of front ≡ Some character → answer ≡ true → IsUtf8 front
  pub all : (front : List ℕ) → character_of front ≡ Some character → IsUtf8 front → answer ≡ true
