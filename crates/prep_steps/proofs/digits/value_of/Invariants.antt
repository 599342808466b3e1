use Rattle.std.proofs.Common.{◌≡◌, ◌≤◌, ◌^◌, ◌-◌, drop}
use Rattle.std.specs.Str.Parse.{digits_value_after, digits_value}
use Rattle.prep_steps.proofs.digits.value_of.Given as goal

abbrev pub invariant-loop-c : goal.invariant-loop-c
invariant-loop-c l = record {
  in_range : l.number ≤ 2 ^ 64 - 1;
  same : digits_value_after l.radix l.number (drop l.c-index l.digits) ≡ digits_value l.radix l.digits;
}
