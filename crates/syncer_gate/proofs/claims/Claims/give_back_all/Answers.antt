use Rattle.std.proofs.Common.{sym, subst}
use Rattle.syncer_gate.specs.Window.{AreKept}
use Rattle.syncer_gate.proofs.Ended.{kept_reopened}
use Rattle.syncer_gate.proofs.claims.Claims.give_back_all.Goals as goal

pub invariant_of-self : goal.invariant_of-self
invariant_of-self c =
    subst (λ ms. AreKept c.self.inside.first c.self.inside.next c.self.inside.low c.self.inside.high ms) (sym c.reopen.ensures)
    (kept_reopened c.self.inside.first c.self.inside.next c.self.inside.low c.self.inside.high c.self.inside.marks.items c.self.invariant)
