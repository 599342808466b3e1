use Rattle.std.proofs.Common.{◌≡◌, take}
use Rattle.entry_step.proofs.copying.copied_marks.Given as goal

abbrev pub invariant-loop-one : goal.invariant-loop-one
invariant-loop-one l = l.made ≡ take l.one-index l.marks
