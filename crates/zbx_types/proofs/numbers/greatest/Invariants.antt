use Rattle.std.proofs.Common.{◌≡◌, drop}
use Rattle.zbx_types.specs.Numbers.{greatest}
use Rattle.zbx_types.proofs.numbers.greatest.Given as goal

abbrev pub invariant-loop-number : goal.invariant-loop-number
invariant-loop-number l = greatest l.greatest (drop l.number-index l.more) ≡ greatest l.fn.first l.more
