use Rattle.std.proofs.Common.{◌≡◌, drop}
use Rattle.history_functions.specs.Numbers.{min_of}
use Rattle.history_functions.specs.Values.{numbers}
use Rattle.history_functions.proofs.Looking.{min_with}
use Rattle.history_functions.proofs.numbers.min.Given as goal

abbrev pub invariant-loop-place : goal.invariant-loop-place
invariant-loop-place l = min_with l.least (numbers (drop l.place l.window)) ≡ min_of (numbers l.window)
