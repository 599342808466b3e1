-- Where bytes are others than those that a sink holds.
use Rattle.std.specs.Prelude.{ℕ, ◌+◌, ◌==◌, List, [], ◌∷◌, Option, Some, None, if◌then◌else◌}

-- the first place, counted on from that one, at which bytes are others than those held, as far as both go
abbrev pub first_other : ℕ → List ℕ → List ℕ → Option ℕ
first_other at [] held = None
first_other at (byte ∷ bytes) [] = None
first_other at (byte ∷ bytes) (there ∷ held) = if byte == there then first_other (at + 1) bytes held else Some at
