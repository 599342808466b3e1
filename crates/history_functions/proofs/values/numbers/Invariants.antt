use Rattle.std.proofs.Common.{◌≡◌, ◌++◌, drop}
use Rattle.history_functions.specs.Values.{numbers}
use Rattle.history_functions.proofs.values.numbers.Given as goal

abbrev pub invariant-loop-place : goal.invariant-loop-place
invariant-loop-place l = l.made ++ numbers (drop l.place l.window) ≡ numbers l.window
