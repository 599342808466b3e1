-- What is kept of a JSON value that is passed over: a text or a whole number, and else only that it was there.
use Rattle.std.specs.Prelude.{◌≡◌, ℕ, List, Option, option_map, option_and_then, codes}
use Rattle.serde_json.specs.Data.{Num, unsigned, negative, float, Data, null, boolean, number, string, array, object, Items}
use Rattle.serde_json.specs.Find.{get, as_array}
use Rattle.sender_json.specs.declared.seen.Seen.{Seen}
use Rattle.sender_json.specs.declared.seen.Seen.TheVariants.{Text, Unsigned, Negative, Other}
use Rattle.sender_json.specs.declared.element.Parts.{Parts}
use Rattle.sender_json.specs.declared.reading.Top.{Top}

-- the value that was kept
abbrev pub data_of : Seen → Data
data_of (Text s) = string s.now
data_of (Unsigned n) = number (unsigned n)
data_of (Negative z) = number (negative z)
data_of Other = null

-- a number without its fraction: one that is held as a float counts as `null`
abbrev pub plain_number : Num → Data
plain_number (unsigned n) = number (unsigned n)
plain_number (negative z) = number (negative z)
plain_number (float x) = null

-- a value as far as a request asks for it: anything but a text or a whole number counts as `null`
abbrev pub plain : Data → Data
plain null = null
plain (boolean b) = null
plain (number n) = plain_number n
plain (string s) = string s
plain (array ds) = null
plain (object ms) = null

-- what was kept under the name is what the value has there
abbrev pub Holds : List ℕ → Option Seen → Data → Type 0
Holds name held d = option_map data_of held ≡ option_map plain (get name d)

-- what was kept of an element is what the element has
pub record HoldsParts (parts : Parts) (d : Data) : Type 0 where
  pub host : Holds (codes "host") parts.host d
  pub key : Holds (codes "key") parts.key d
  pub value : Holds (codes "value") parts.value d
  pub clock : Holds (codes "clock") parts.clock d
  pub ns : Holds (codes "ns") parts.ns d
  pub state : Holds (codes "state") parts.state d

-- what was kept of a body is its `request`, its `host`, and what is made of the elements of its `data` where that is an
-- array
pub record HoldsTop {T : Type 0} (of : Items → T) (top : Top T) (d : Data) : Type 0 where
  pub request : Holds (codes "request") top.request d
  pub host : Holds (codes "host") top.host d
  pub elements : top.elements ≡ option_map of (option_and_then as_array (get (codes "data") d))
