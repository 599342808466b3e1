use Rattle.std.proofs.Common.{◌≡◌, ◌+◌, ◌++◌, length, take}
use Rattle.intake_front.specs.Intake.{numbered_from}
use Rattle.intake_front.proofs.settling.number.Given as goal

abbrev pub invariant-loop-entry : goal.invariant-loop-entry
invariant-loop-entry l = record {
  made : l.made ≡ l.initial.made ++ numbered_from (l.first + length l.initial.made) (take l.entry-index l.group);
  count : length l.made ≡ length l.initial.made + l.entry-index;
}
