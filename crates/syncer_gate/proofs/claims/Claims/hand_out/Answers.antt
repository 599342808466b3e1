use Rattle.std.proofs.Common.{◌∙◌, ◌+◌, sym, ap, subst}
use Rattle.zbx_types.specs.Masters.{has_id}
use Rattle.syncer_gate.specs.Gate.{Gate, with_taken}
use Rattle.syncer_gate.specs.Window.{AreKept}
use Rattle.syncer_gate.proofs.Claimed.{AreFree, kept_taken}
use Rattle.syncer_gate.proofs.claims.Claims.hand_out.Goals as goal

pub invariant_of-self : goal.invariant_of-self
invariant_of-self c =
    let ns = c.args.numbers in
    let gate : Gate = record { first = c.self.inside.first; marks = c.self.inside.marks.items; next = c.self.inside.next } in
    let free : AreFree gate ns = subst (λ g. AreFree g ns) (sym c.self.view_is) (record { offered = c.requires.offered; pending = c.requires.pending }) in
    subst (AreKept c.self.inside.first (c.self.inside.next + 1) c.self.inside.low c.take-self-inside.result)
    (sym (c.take-self-inside.ensures.marks ∙ ap (λ ids. with_taken c.self.inside.next ids c.self.inside.first c.self.inside.marks.items) c.as_slice-2.ensures))
    (kept_taken gate c.self.inside.low c.self.inside.high c.take-self-inside.result ns free c.self.invariant c.take-self-inside.ensures.high.0 (c.take-self-inside.ensures.inside c.self.invariant.inside)
    (λ n h. c.take-self-inside.ensures.high.1 n (ap (λ ids. has_id ids n) c.as_slice-2.ensures ∙ h)))
