use Rattle.std.proofs.Common.{◌≡◌, drop}
use Rattle.zbx_types.specs.Numbers.{least}
use Rattle.zbx_types.proofs.numbers.least.Given as goal

abbrev pub invariant-loop-number : goal.invariant-loop-number
invariant-loop-number l = least l.least (drop l.number-index l.more) ≡ least l.fn.first l.more
