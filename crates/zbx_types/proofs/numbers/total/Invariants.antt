use Rattle.std.proofs.Common.{◌≡◌, drop, ◌+ℤ◌}
use Rattle.zbx_types.specs.Numbers.{total}
use Rattle.zbx_types.proofs.numbers.total.Given as goal

abbrev pub invariant-loop-number : goal.invariant-loop-number
invariant-loop-number l = l.sum +ℤ total (drop l.number-index l.numbers) ≡ total l.numbers
