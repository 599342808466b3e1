use Rattle.std.proofs.Common.{◌≡◌, ◌||◌, drop}
use Rattle.zbx_types.specs.declared.entries.Entry.{Entry}
use Rattle.footprint.specs.Feet.{told_by}
use Rattle.syncer_gate.specs.Chosen.{opens, conflicts_with}
use Rattle.syncer_gate.specs.Stamped.{meets}
use Rattle.syncer_gate.proofs.choice.note_open.Given as goal

abbrev pub invariant-loop-place : goal.invariant-loop-place
invariant-loop-place l =
    (e : Entry)
    → (meets (told_by l.feet) l.touched e || conflicts_with (told_by l.feet) (opens (drop l.place l.marks) (drop l.place l.entries)) e)
    ≡ conflicts_with (told_by l.feet) (opens l.marks l.entries) e
