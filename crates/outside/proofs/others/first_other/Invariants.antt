use Rattle.std.proofs.Common.{◌≡◌, ◌+◌, drop}
use Rattle.outside.specs.Others.{first_other}
use Rattle.outside.proofs.others.first_other.Given as goal

-- the place is the first behind those that were looked at
abbrev pub invariant-loop-i : goal.invariant-loop-i
invariant-loop-i l = first_other l.at l.bytes l.held ≡ first_other (l.at + l.i) (drop l.i l.bytes) (drop l.i l.held)
