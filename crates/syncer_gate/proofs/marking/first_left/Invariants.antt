use Rattle.syncer_gate.specs.Window.{AreDone}
use Rattle.syncer_gate.proofs.marking.first_left.Given as goal

abbrev pub invariant-loop-place : goal.invariant-loop-place
invariant-loop-place l = AreDone l.place l.marks
