use Rattle.std.proofs.Common.{◌≡◌, ◌+◌, ◌+ℤ◌, length, drop}
use Rattle.zbx_types.specs.Numbers.{total}
use Rattle.history_functions.specs.Values.{numbers}
use Rattle.history_functions.proofs.numbers.added_up.Given as goal

abbrev pub invariant-loop-place : goal.invariant-loop-place
invariant-loop-place l = record {
  total : l.summed.total +ℤ total (numbers (drop l.place l.window)) ≡ total (numbers l.window);
  count : l.summed.count + length (numbers (drop l.place l.window)) ≡ length (numbers l.window);
}
