-- Where a text stops being one of the grammar. What the grammar says of a text depends on how many bytes of it are held
-- to limits: those of the front that is looked at, and none of what completes it.
use Rattle.std.specs.Prelude.{ℕ, List, length}
use Rattle.byte_grammar.specs.Fault.{IsFaultOf, UpTo, IsViable as IsViableIn}

-- some text of the grammar begins so
abbrev pub IsViable : (ℕ → List ℕ → Type 0) → List ℕ → Type 0
IsViable G front = IsViableIn (G (length front)) front

-- the first fault of a text, or the limit
abbrev pub IsFault : (ℕ → List ℕ → Type 0) → ℕ → List ℕ → ℕ → Type 0
IsFault G limit text at = IsFaultOf (IsViable G) (UpTo limit) text at
