use Rattle.std.proofs.Common.{◌≡◌, ◌≤◌, drop}
use Rattle.zbx_types.specs.Numerals.{digits_after}
use Rattle.zbx_types.proofs.digits.bounded.Given as goal

abbrev pub invariant-loop-c : goal.invariant-loop-c
invariant-loop-c l = record {
  in_range : l.number ≤ l.most;
  same : digits_after l.number (drop l.c-index l.digits) ≡ digits_after 0 l.digits;
}
