use Rattle.std.proofs.Common.{◌≡◌, ◌++◌, length}
use Rattle.std.specs.Option.{option_map}
use Rattle.outside.specs.Words.{bytes_of_hex}
use Rattle.outside.proofs.words.hex_bytes.Given as goal

abbrev pub invariant-loop-left : goal.invariant-loop-left
invariant-loop-left l = bytes_of_hex l.hex ≡ option_map (λ more. l.bytes.items ++ more) (bytes_of_hex l.left)

abbrev pub decreases-loop-left : goal.decreases-loop-left
decreases-loop-left l = length l.left
