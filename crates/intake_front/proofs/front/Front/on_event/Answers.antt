use Rattle.std.proofs.Common.{ℕ, List, subst}
use Rattle.std.specs.Prelude.{OnOk}
use Rattle.zbx_types.specs.declared.conf.Conf.{Conf}
use Rattle.entry_step.specs.Start.{Start}
use Rattle.intake_front.specs.Intake.{IsSound}
use Rattle.intake_front.specs.Fronted.{limits_of, refused_group}
use Rattle.intake_front.proofs.Sound.{kept_after}
use Rattle.intake_front.proofs.front.Front.on_event.Goals as goal

pub returns-clause-keeps : goal.returns-clause-keeps
returns-clause-keeps g c =
    let inside = c.self.inside.inside in
    subst (λ v. OnOk c.receive_alone.result ((flat : List ℕ → Conf) (ground : Start) → IsSound flat ground c.args.ready.now.conf v.intake → IsSound flat ground c.args.ready.now.conf c.receive_alone.new.held)) c.self.view_is
    (kept_after c.args.ready.now.conf inside.held c.receive_alone.new.held c.args.event.now (λ o. limits_of inside.journal (refused_group inside.held o)) c.receive_alone.result c.receive_alone.ensures.offered.after)
