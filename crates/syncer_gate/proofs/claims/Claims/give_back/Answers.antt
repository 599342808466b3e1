use Rattle.std.proofs.Common.{◌∙◌, List, sym, ap, subst}
use Rattle.syncer_gate.specs.declared.marks.Mark.{Mark}
use Rattle.syncer_gate.specs.declared.marks.Mark.TheVariants.{Pending}
use Rattle.syncer_gate.specs.Gate.{Gate, with_ended}
use Rattle.syncer_gate.specs.Window.{AreKept}
use Rattle.syncer_gate.proofs.Ended.{kept_ended, core_ended, not_both}
use Rattle.syncer_gate.proofs.claims.Claims.give_back.Goals as goal

pub invariant_of-self : goal.invariant_of-self
invariant_of-self c =
    subst (λ ms. AreKept c.self.inside.first c.self.inside.next c.self.inside.low c.self.inside.high ms) (sym c.end.ensures)
    (kept_ended c.self.inside.first c.self.inside.next c.self.inside.low c.self.inside.high c.args.batch.id Pending c.self.inside.marks.items (λ y e. cc) c.self.invariant)

pub returns-then-is_open-clause-other : goal.returns-then-is_open-clause-other
returns-then-is_open-clause-other c = λ wrong. absurd (wrong (c.is_open.ensures.0 c.if-is_open.true))

pub returns-then-is_open-clause-step : goal.returns-then-is_open-clause-step
returns-then-is_open-clause-step c = λ open_one entries.
    let after : List Mark → Gate = λ ms. record { first = c.self.inside.first; marks = ms; next = c.self.inside.next } in
    core_ended entries c.args.self.now (after c.end.new.marks.items) c.args.batch.id Pending (ap after c.end.ensures ∙ ap (with_ended c.args.batch.id Pending) c.self.view_is)

pub returns-clause-open : goal.returns-clause-open
returns-clause-open c = λ open_one. absurd (not_both _ (c.is_open.ensures.1 open_one) c.if-is_open.false)

pub returns-clause-step : goal.returns-clause-step
returns-clause-step c = λ open_one entries. absurd (not_both _ (c.is_open.ensures.1 open_one) c.if-is_open.false)
