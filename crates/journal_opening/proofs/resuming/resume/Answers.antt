use Rattle.std.proofs.Common.{◌≡◌, ◌+◌, ◌∷◌, [], ◌++◌, List, Ok, map, ap, sym, subst, ◌∙◌}
use Rattle.zbx_types.specs.declared.entries.Numbered.{Numbered}
use Rattle.config_templates.specs.Flat.{flat_of}
use Rattle.trigger_state.specs.Stages.{Stage, first_stage}
use Rattle.intake_front.specs.Intake.{start}
use Rattle.journal_opening.specs.Epochs.{earlier}
use Rattle.journal_opening.specs.Resumed.{TurnedAway, HasBegun}
use Rattle.journal_opening.proofs.Beginning.{has_counted, has_journaled, turned_unready}
use Rattle.journal_opening.proofs.KeptTexts.{some_last, epochs_begun}
use Rattle.journal_opening.proofs.resuming.resume.Goals as goal

pub last_of-requires : goal.last_of-requires
last_of-requires g c =
    some_last c.as_slice.result.now (map first_stage (earlier c.args.ready.conf.text c.in-Ok.taken.2.items)) c.args.ready (c.as_slice.ensures.value ∙ c.in-Ok-epochs_of.ensures.ok)

pub begin-requires-clause-read : goal.begin-requires-clause-read
begin-requires-clause-read g c = c.in-Ok.ensures.ok.has.ready

pub begin-requires-clause-journaled : goal.begin-requires-clause-journaled
begin-requires-clause-journaled g c =
    let t = c.in-Ok.ensures.ok in
    has_journaled g.D.Disk.tells c.in-Ok.taken.0 t.found t.has c.in-Ok.taken.1 t.kept_are

pub begin-requires-clause-counted : goal.begin-requires-clause-counted
begin-requires-clause-counted g c =
    let t = c.in-Ok.ensures.ok in
    has_counted g.D.Disk.tells c.in-Ok.taken.0 t.found t.has t.accepted.0

pub returns-in-Err-epochs_of-clause-err : goal.returns-in-Err-epochs_of-clause-err
returns-in-Err-epochs_of-clause-err g c = λ outbox outbox'.
    subst (λ (es : List Numbered). TurnedAway c.args.ready.conf c.args.max_entries (g.D.Disk.tells c.args.disk) (g.D.Disk.tells c.end.result) outbox outbox' es c.in-Err-epochs_of.status) (sym c.new.ensures)
    (turned_unready g.D.Disk.tells c.args.ready.conf c.args.max_entries c.args.disk c.in-Ok.taken.0 c.in-Ok.taken.1 c.in-Ok.taken.2.items c.in-Ok.ensures.ok outbox outbox' c.end.result c.in-Err-epochs_of.status c.end.ensures c.in-Err-epochs_of.ensures.err)

pub returns-in-Ok-begin-clause-epochs : goal.returns-in-Ok-begin-clause-epochs
returns-in-Ok-begin-clause-epochs g c =
    let taken = c.in-Ok.taken in
    let made : c.in-Ok-epochs_of.epochs.items ≡ map first_stage (earlier c.args.ready.conf.text taken.2.items) ++ first_stage c.args.ready.conf ∷ [] =
    c.in-Ok-epochs_of.ensures.ok ∙ ap (λ (s : Stage). map first_stage (earlier c.args.ready.conf.text taken.2.items) ++ s ∷ []) c.requires.first in
    let last = c.last_of.ensures (map first_stage (earlier c.args.ready.conf.text taken.2.items)) c.args.ready (c.as_slice.ensures.value ∙ c.in-Ok-epochs_of.ensures.ok) in
    epochs_begun g.D.Disk.tells c.args.ready.conf c.args.max_entries c.args.disk taken.0 taken.1 taken.2.items c.in-Ok.ensures.ok c.in-Ok-begin.front.intake c.in-Ok-begin.front.journal.base c.in-Ok-epochs_of.epochs.items c.requires.conf
    (c.in-Ok-begin.ensures.made ∙ ap (λ (s : Stage). start taken.0.base s.conf.text taken.1 (taken.0.at + 1)) last) c.in-Ok-begin.ensures.base made

pub returns-in-Ok-begin-clause-ok : goal.returns-in-Ok-begin-clause-ok
returns-in-Ok-begin-clause-ok g c =
    let taken = c.in-Ok.taken in
    let last = c.last_of.ensures (map first_stage (earlier c.args.ready.conf.text taken.2.items)) c.args.ready (c.as_slice.ensures.value ∙ c.in-Ok-epochs_of.ensures.ok) in
    subst (λ (s : Stage). HasBegun g.D.Disk.tells s.conf c.args.max_entries c.args.disk c.in-Ok-begin.front) last
    (c.in-Ok-begin.ensures.ok c.args.max_entries c.args.disk taken.2.items (subst (λ (s : Stage). flat_of s.conf.text ≡ Ok s.conf) (sym last) c.requires.conf) c.in-Ok.ensures.ok)

pub returns-in-Err-begin-clause-err : goal.returns-in-Err-begin-clause-err
returns-in-Err-begin-clause-err g c = λ outbox outbox'.
    let taken = c.in-Ok.taken in
    let r = c.in-Err-begin.refused in
    let last = c.last_of.ensures (map first_stage (earlier c.args.ready.conf.text taken.2.items)) c.args.ready (c.as_slice.ensures.value ∙ c.in-Ok-epochs_of.ensures.ok) in
    subst (λ (s : Stage). TurnedAway s.conf c.args.max_entries (g.D.Disk.tells c.args.disk) (g.D.Disk.tells r.disk) outbox outbox' r.entries r.status) last
    (c.in-Err-begin.ensures.err c.args.max_entries c.args.disk taken.2.items outbox outbox' c.in-Ok.ensures.ok)

pub returns-in-Err-clause-err : goal.returns-in-Err-clause-err
returns-in-Err-clause-err g c = λ outbox outbox'. c.in-Err.ensures.err c.args.ready.conf outbox outbox'
