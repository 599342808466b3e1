-- Texts that are read in pieces.
use Rattle.std.proofs.Common.{◌≡◌, ℕ, ◌≤◌, List, ◌++◌, ◌+◌, length, length-append, arith}
use Rattle.std.specs.Prelude.{Option}
use Rattle.std.specs.Io.KnownBytes.{Consumes}
use Rattle.std.proofs.KnownBytes.{Consumes-trans}
use Rattle.whole_texts.specs.Reads.{ReadsUpTo}

-- a piece more was taken from a source
pub reads_piece : (most : ℕ) (a b c : Option (List ℕ)) (text piece : List ℕ) → Consumes a b text → Consumes b c piece → length text + length piece ≤ most + 1 → ReadsUpTo most a c
reads_piece most a b c text piece p q few = (text ++ piece, (omega (arith, few, length-append text piece), Consumes-trans a b c text piece p q))
