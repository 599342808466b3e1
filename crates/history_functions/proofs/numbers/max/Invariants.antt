use Rattle.std.proofs.Common.{◌≡◌, drop}
use Rattle.history_functions.specs.Numbers.{max_of}
use Rattle.history_functions.specs.Values.{numbers}
use Rattle.history_functions.proofs.Looking.{max_with}
use Rattle.history_functions.proofs.numbers.max.Given as goal

abbrev pub invariant-loop-place : goal.invariant-loop-place
invariant-loop-place l = max_with l.greatest (numbers (drop l.place l.window)) ≡ max_of (numbers l.window)
