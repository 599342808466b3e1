use Rattle.std.proofs.Common.{◌∙◌, length, sym, ap}
use Rattle.syncer_gate.specs.Gate.{Gate}
use Rattle.syncer_gate.proofs.claims.Claims.choose.Goals as goal

pub note_open-requires-clause-size : goal.note_open-requires-clause-size
note_open-requires-clause-size c =
    c.requires.size ∙ sym (ap (λ (g : Gate). length g.marks) c.self.view_is) ∙ sym (ap length c.as_slice-marks.ensures.value)

pub pick-requires-clause-size : goal.pick-requires-clause-size
pick-requires-clause-size c =
    c.requires.size ∙ sym (ap (λ (g : Gate). length g.marks) c.self.view_is) ∙ sym (ap length c.as_slice-marks.ensures.value)
