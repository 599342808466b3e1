-- Where a text stops being one of a grammar. A grammar is what it says of each text.
use Rattle.std.specs.Prelude.{ℕ, List, ◌++◌, ◌≤◌, ◌<◌, length, take}

-- some text of the grammar begins so
abbrev pub IsViable : (List ℕ → Type 0) → List ℕ → Type 0
IsViable G front = (more : List ℕ) × G (front ++ more)

-- the place of the first byte where a text stops going on, or passes what is allowed, or the length where the text ends
-- before that: the front of that length is viable, and no longer front of an allowed length is
pub record IsFaultOf (viable : List ℕ → Type 0) (allowed : ℕ → Type 0) (text : List ℕ) (at : ℕ) : Type 0 where
  pub within : at ≤ length text
  pub fits : allowed at
  pub goes_on : viable (take at text)
  pub stops : (n : ℕ) → at < n → n ≤ length text → allowed n → viable (take n text) → ⊥

-- fronts of each length are looked at
abbrev pub EachLength : ℕ → Type 0
EachLength n = Unit {0}

-- fronts up to a limit are
abbrev pub UpTo : ℕ → ℕ → Type 0
UpTo limit n = n ≤ limit

-- the first fault of a text in a grammar
abbrev pub IsFault : (List ℕ → Type 0) → List ℕ → ℕ → Type 0
IsFault G text at = IsFaultOf (IsViable G) EachLength text at

-- the first fault of a text in a grammar, or the limit
abbrev pub IsFaultUpTo : (List ℕ → Type 0) → ℕ → List ℕ → ℕ → Type 0
IsFaultUpTo G limit text at = IsFaultOf (IsViable G) (UpTo limit) text at
