use Rattle.std.proofs.Common.{◌≡◌, drop, slice_get}
use Rattle.history_functions.specs.Values.{numbers}
use Rattle.history_functions.proofs.numbers.nth.Given as goal

abbrev pub invariant-loop-index : goal.invariant-loop-index
invariant-loop-index l = slice_get (numbers (drop l.index l.window)) l.left ≡ slice_get (numbers l.window) l.fn.place
