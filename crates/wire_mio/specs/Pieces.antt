-- What a read of a connection comes to.
use Rattle.std.specs.Prelude.{◌≡◌, ℕ, ◌<◌, ◌≤◌, ◌++◌, List, length, Option, Some, None, ⊤}
use Rattle.std.specs.Io.KnownBytes.{Consumes, IsAtEnd, Keeps}
use Rattle.wire_mio.specs.Queues.{longest_piece}
use Rattle.wire_mio.specs.declared.piece.Got.{Got}
use Rattle.wire_mio.specs.declared.piece.Got.TheVariants.{Piece, End, Nothing, Again, Lost}

-- a piece is what was taken from the reader, and within its bounds; otherwise nothing was taken, at the end of what there is
-- or at an error
abbrev pub IsRead : Option (List ℕ) → Option (List ℕ) → Got → Type 0
IsRead old new (Piece bytes) = Consumes old new bytes × (0 < length bytes) × (length bytes ≤ longest_piece)
IsRead old new End = IsAtEnd new
IsRead old new Nothing = Keeps old new
IsRead old new Again = Keeps old new
IsRead old new Lost = Keeps old new

-- a piece is within its bounds
abbrev pub IsBounded : Got → Type 0
IsBounded (Piece bytes) = (0 < length bytes) × (length bytes ≤ longest_piece)
IsBounded End = ⊤
IsBounded Nothing = ⊤
IsBounded Again = ⊤
IsBounded Lost = ⊤

-- where what has gone out is told, that and what waits behind it, one after the other, stay what they were
abbrev pub GoesOut : Option (List ℕ) → List ℕ → Option (List ℕ) → List ℕ → Type 0
GoesOut None waits gone_now waits_now = ⊤
GoesOut (Some gone) waits None waits_now = ⊥
GoesOut (Some gone) waits (Some gone_now) waits_now = gone_now ++ waits_now ≡ gone ++ waits
