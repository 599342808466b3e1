use Rattle.std.proofs.Common.{subst, ◌≡◌}
use Rattle.json_text.specs.Sane.{IsSane}
use Rattle.json_text.specs.declared.machine.State.{State}
use Rattle.json_text.proofs.Moving.{stayed, one_step, on_step, off_step}
use Rattle.json_text.proofs.machine.State.advance.Goals as goal

pub next-requires : goal.next-requires
next-requires c =
    let same : c.args.self.now ≡ c.several.new.self = stayed c.args.self.now c.several.new.self c.in_ok-several.several c.args.rest.now c.if-several-gt0.false c.in_ok-several.ensures.goes in
    subst (λ (s : State). IsSane s.mode) same c.requires.sane

pub returns-then-branch-clause-goes : goal.returns-then-branch-clause-goes
returns-then-branch-clause-goes c = λ more.
    let same : c.args.self.now ≡ c.several.new.self = stayed c.args.self.now c.several.new.self c.in_ok-several.several c.args.rest.now c.if-several-gt0.false c.in_ok-several.ensures.goes in
    one_step c.args.self.now c.next.new.self c.args.rest.now c.requires.more (rw same (on_step c.in_ok-next.field-0 c.next.new.self _ c.if-branch.true c.in_ok-next.ensures))

pub returns-else-branch-clause-stops : goal.returns-else-branch-clause-stops
returns-else-branch-clause-stops c = λ none.
    let same : c.args.self.now ≡ c.several.new.self = stayed c.args.self.now c.several.new.self c.in_ok-several.several c.args.rest.now c.if-several-gt0.false c.in_ok-several.ensures.goes in
    rw same (off_step c.in_ok-next.field-0 c.next.new.self _ c.if-branch.false c.in_ok-next.ensures)
