use Rattle.std.proofs.Common.{◌≡◌, ◌++◌, drop}
use Rattle.footprint.specs.Feet.{told_by}
use Rattle.syncer_gate.specs.Chosen.{picked}
use Rattle.syncer_gate.specs.Stamped.{meets}
use Rattle.syncer_gate.proofs.choice.pick.Given as goal

abbrev pub invariant-loop-place : goal.invariant-loop-place
invariant-loop-place l =
    l.made ++ picked (told_by l.feet) (meets (told_by l.feet) l.touched) l.left l.room (drop l.place l.marks) (drop l.place l.entries)
    ≡ picked (told_by l.feet) (meets (told_by l.feet) l.fn.touched) l.looks l.limit l.marks l.entries
