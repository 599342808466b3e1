use Rattle.std.proofs.Common.{ℕ, ⊎_elim, take, sym, ◌∙◌, ap, subst, Ok}
use Rattle.zbx_types.specs.declared.conf.Conf.{Conf}
use Rattle.intake_front.specs.Intake.{Intake, Handled, handled}
use Rattle.intake_front.specs.Fronted.{limits_of}
use Rattle.intake_front.specs.Staging.{IsOffered}
use Rattle.intake_front.proofs.Alone.{alone_kept, alone_failed}
use Rattle.intake_front.proofs.Fronts.{did_front, did_waiting}
use Rattle.intake_front.proofs.offering.receive_alone.Goals as goal

pub commit-requires-clause-waiting : goal.commit-requires-clause-waiting
commit-requires-clause-waiting g c =
    did_waiting c.args.journal.now c.new-collection.result c.args.held.now c.receive.new.held c.args.batch.now c.receive.new.batch c.args.event.now g.D.Disk.tells c.receive.result c.requires.waiting
    c.receive.ensures.room c.receive.ensures.taken

pub returns-in-Some-clause-offered : goal.returns-in-Some-clause-offered
returns-in-Some-clause-offered g c =
    let journal = c.args.journal.now in
    let conf = c.new-collection.result in
    let i = c.args.held.now in
    let m = c.receive.new.held in
    let b = c.args.batch.now in
    let k = c.receive.new.batch in
    let e = c.args.event.now in
    let d = g.D.Disk in
    let says : ℕ → Handled = λ n. handled (limits_of journal n) conf i e in
    let t = c.in_ok-receive.ensures.taken in
    let batch = c.requires.waiting.batch in
    let front = ap (λ (v : Intake). take b.mark.kept v.entries) (sym t.after) ∙ did_front journal conf i m b k e c.receive.result batch c.receive.ensures.taken in
    let list = sym c.in-Some.ensures.items ∙ c.into_vec.ensures in
    subst (λ (k : Conf). IsOffered d.tells journal c.commit.new.journal i c.commit.new.held (λ n. handled (limits_of journal n) k i e) (Ok c.in-Some.answer)) c.new-collection.ensures
    (⊎_elim
    (λ ready. alone_kept d.tells journal c.commit.new.journal i m c.commit.new.held b k says c.in_ok-receive.field-0 c.requires.block batch t front
    c.pop.new.self.items c.in-Some.answer c.requires.answers (list ∙ (c.commit.ensures.done ready).0) (c.commit.ensures.done ready).1 (c.commit.ensures.done ready).2 c.commit.ensures.base c.commit.ensures.written)
    (λ broken. alone_failed d.tells journal c.commit.new.journal i m c.commit.new.held b k says c.in_ok-receive.field-0 c.requires.block batch t front
    c.pop.new.self.items c.in-Some.answer c.requires.answers (list ∙ (c.commit.ensures.failed broken).0) (c.commit.ensures.failed broken).1 (c.commit.ensures.failed broken).2 (c.commit.ensures.failed broken).3 broken c.commit.ensures.base c.commit.ensures.written)
    c.commit.ensures.state)
