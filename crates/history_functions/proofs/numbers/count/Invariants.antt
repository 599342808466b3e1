use Rattle.std.proofs.Common.{◌≡◌, ◌≤◌, ◌+◌, length, drop}
use Rattle.history_functions.specs.Values.{numbers}
use Rattle.history_functions.proofs.numbers.count.Given as goal

abbrev pub invariant-loop-place : goal.invariant-loop-place
invariant-loop-place l = (l.count ≤ l.place) × (l.count + length (numbers (drop l.place l.window)) ≡ length (numbers l.window))
