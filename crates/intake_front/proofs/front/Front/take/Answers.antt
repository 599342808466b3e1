use Rattle.std.proofs.Common.{◌≡◌, ◌++◌, ◌∷◌, [], ℕ, List, None, ◌∙◌, ap, subst}
use Rattle.std.specs.Prelude.{OnOk}
use Rattle.zbx_types.specs.declared.conf.Conf.{Conf}
use Rattle.entry_step.specs.Start.{Start}
use Rattle.outside.specs.declared.event.WireEvent.{WireEvent}
use Rattle.intake_front.specs.Intake.{Intake, IsSound}
use Rattle.intake_front.specs.Fronted.{limits_of}
use Rattle.intake_front.specs.Batch.{answered, HasTaken}
use Rattle.intake_front.specs.Waiting.{front_of}
use Rattle.intake_front.proofs.Commits.{stands_of}
use Rattle.intake_front.proofs.Fronts.{did_take, did_keep, did_kept, did_waiting}
use Rattle.intake_front.proofs.front.Front.take.Goals as goal

pub receive-requires-clause-stands : goal.receive-requires-clause-stands
receive-requires-clause-stands g c =
    let f = c.self.inside.inside in
    stands_of g.D.Disk.tells f.journal f.held f.batch c.self.invariant (ap (λ v. v.journal.state) c.self.view_is ∙ c.requires.going)

pub invariant_of-self : goal.invariant_of-self
invariant_of-self g c =
    let f = c.self.inside.inside in
    did_waiting f.journal c.args.collection.now f.held c.receive.new.held f.batch c.receive.new.batch c.args.event.now g.D.Disk.tells c.receive.result c.self.invariant c.receive.ensures.room c.receive.ensures.taken

pub returns-clause-taken : goal.returns-clause-taken
returns-clause-taken g c =
    let f = c.self.inside.inside in
    let conf = c.args.collection.now in
    let e = c.args.event.now in
    let new = front_of f.journal c.receive.new.held c.receive.new.batch in
    subst (λ v. OnOk c.receive.result ((begun : Intake) → (events : List WireEvent) → v.intake ≡ (answered (limits_of v.journal 0) conf begun events).intake
    → (answered (limits_of v.journal 0) conf begun events).stop ≡ None → HasTaken conf begun events v → HasTaken conf begun (events ++ e ∷ []) new)) c.self.view_is
    (did_take f.journal conf f.held c.receive.new.held f.batch c.receive.new.batch e c.receive.result c.self.invariant.batch c.receive.ensures.taken)

pub returns-clause-keeps : goal.returns-clause-keeps
returns-clause-keeps g c =
    let f = c.self.inside.inside in
    let conf = c.args.collection.now in
    subst (λ v. OnOk c.receive.result ((flat : List ℕ → Conf) (ground : Start) → IsSound flat ground conf v.intake → IsSound flat ground conf c.receive.new.held)) c.self.view_is
    (did_keep f.journal conf f.held c.receive.new.held f.batch c.receive.new.batch c.args.event.now c.receive.result c.receive.ensures.taken)

pub returns-clause-kept : goal.returns-clause-kept
returns-clause-kept g c =
    let f = c.self.inside.inside in
    did_kept f.journal c.args.collection.now f.held c.receive.new.held f.batch c.receive.new.batch c.args.event.now c.receive.result c.self.invariant.batch c.receive.ensures.taken ∙ ap (λ v. v.kept) c.self.view_is
