-- Texts of a state that are whole are UTF-8.
use Rattle.std.specs.Prelude.{◌≡◌, IsUtf8}
use Rattle.json_text.specs.declared.string.InString.TheVariants.{Between}
use Rattle.json_text.specs.declared.place.Mode.{Mode}
use Rattle.json_text.specs.declared.place.Mode.TheVariants.{Value, FirstItem, FirstName, NextName, Named, Literal}
use Rattle.json_text.specs.declared.place.Mode.TheVariants.{Number, String, Done}

-- the text so far of a number is UTF-8, and that of a string between characters
abbrev pub IsSane : Mode → Type 0
IsSane Value = Unit {0}
IsSane FirstItem = Unit {0}
IsSane FirstName = Unit {0}
IsSane (NextName ms) = Unit {0}
IsSane (Named ms name) = Unit {0}
IsSane (Literal l) = Unit {0}
IsSane (Number n text) = IsUtf8 text
IsSane (String u at) = at.place ≡ Between → IsUtf8 at.text
IsSane (Done j) = Unit {0}
