-- What a byte leads to, and bytes that lead from a place to itself.
use Rattle.std.specs.Prelude.{◌≡◌, ◌≤◌, ◌+◌, ℕ, List, [], ◌∷◌, ◌++◌, length, take, Bool, true, false, ◌==◌, nat_le}
use Rattle.std.specs.Prelude.{nat_lt, if◌then◌else◌, Option, Some, None}
use Rattle.byte_grammar.specs.Bytes.{Each}
use Rattle.json_text.specs.Machine.{state, after}
use Rattle.json_text.specs.declared.frame.Frame.{Frame}
use Rattle.json_text.specs.Json.{words, no_members}
use Rattle.json_text.specs.declared.machine.State.{State}
use Rattle.json_text.specs.declared.place.Mode.{Mode}
use Rattle.json_text.specs.declared.place.Mode.TheVariants.{Value, FirstItem, FirstName, NextName, Named, Literal}
use Rattle.json_text.specs.declared.place.Mode.TheVariants.{Number, String, Done}
use Rattle.json_text.specs.declared.number.InNumber.{InNumber}
use Rattle.json_text.specs.declared.number.InNumber.TheVariants.{Whole, Fraction, Digits}

-- the state where the text goes on, none where it doesn't
abbrev pub reach : Bool → State → Option State
reach true s = Some s
reach false s = None

-- a byte of a string that stands for itself alone: from the space to 127, but for a quote and a backslash
abbrev pub is_plain : ℕ → Bool
is_plain b = if nat_le 32 b then (if nat_lt b 128 then (if b == 34 then false else if b == 92 then false
    else true) else false) else false

-- a digit leads from this place in a number to itself
abbrev pub keeps : InNumber → Bool
keeps Whole = true
keeps Fraction = true
keeps Digits = true
keeps _ = false

-- the text begins with these plain bytes in quotes
pub record IsQuoted (inner text : List ℕ) : Type 0 where
  pub within : length inner + 2 ≤ length text
  pub front : take (length inner + 2) text ≡ 34 ∷ (inner ++ 34 ∷ [])
  pub plain : Each is_plain inner

-- a value or a name may begin here
abbrev pub takes_string : Mode → Bool
takes_string Value = true
takes_string FirstName = true
takes_string (NextName ms) = true
takes_string FirstItem = false
takes_string (Named ms name) = false
takes_string (Literal l) = false
takes_string (Number n t) = false
takes_string (String u at) = false
takes_string (Done j) = false

-- the place behind a string that began here
abbrev pub behind_string : Mode → List ℕ → Mode
behind_string Value s = Done (words s)
behind_string FirstName s = Named no_members s
behind_string (NextName ms) s = Named ms s
behind_string FirstItem s = FirstItem
behind_string (Named ms name) s = Named ms name
behind_string (Literal l) s = Literal l
behind_string (Number n t) s = Number n t
behind_string (String u at) s = String u at
behind_string (Done j) s = Done j

-- the bytes lead from one place to another, whichever containers are open
abbrev pub LeadTo : Mode → List ℕ → Mode → Type 0
LeadTo from bytes to = (k : List Frame) → after (Some (state from k)) bytes ≡ Some (state to k)
