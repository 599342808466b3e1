use Rattle.std.proofs.Common.{◌∙◌, List, refl, sym, subst}
use Rattle.zbx_types.specs.declared.entries.Numbered.{Numbered}
use Rattle.outside.specs.Tells.{SinkTells}
use Rattle.entry_laws.specs.InForce.{FitsLog, HasBegun, IsFull}
use Rattle.entry_step.specs.Log.{log_of}
use Rattle.base_laws.specs.Grounds.{start_of}
use Rattle.book_opening.specs.Outgoing.{IsLeft, log_lines}
use Rattle.server_run.specs.Going.{IsBookless, book_status}
use Rattle.server_run.proofs.Going.{bookless, gone_held, gone_course, course_taken, finished_taken}
use Rattle.server_run.proofs.course.named_beside.Goals as goal

pub new-requires-clause-kept : goal.new-requires-clause-kept
new-requires-clause-kept g c = c.entries.ensures ∙ c.requires.opened.entries_are

pub new-requires-clause-base : goal.new-requires-clause-base
new-requires-clause-base g c = c.base.ensures ∙ c.requires.opened.base_is

pub new-requires-clause-begun : goal.new-requires-clause-begun
new-requires-clause-begun g c =
    let o = c.requires.opened in
    subst (λ (es : List Numbered). HasBegun (start_of g.S.StartName.flat g.S.StartName.base) (log_of es)) o.entries_are o.sound.begun

pub new-requires-clause-whole : goal.new-requires-clause-whole
new-requires-clause-whole g c =
    let o = c.requires.opened in
    let from = start_of g.S.StartName.flat g.S.StartName.base in
    subst (λ (es : List Numbered). IsFull from (log_of es) × FitsLog g.S.StartName.flat from (log_of es)) o.entries_are (o.sound.full, o.sound.fits)

pub returns-in-Err-clause-gone : goal.returns-in-Err-clause-gone
returns-in-Err-clause-gone g c =
    let e = c.in-Err.ensures in
    let first = g.S.StartName.outbox in
    let before = g.S.StartName.base.lines in
    let lines = log_lines g.S.StartName.flat g.S.StartName.base (log_of g.S.StartName.kept) in
    let left = c.held_back.ensures in
    gone_held g.D.Disk.tells g.S.StartName.base g.O.Sink.tells _ _ _ _ _ _ _ c.held_back.result left.began left.disk left.entries c.in-Err.error (left.status ∙ c.refused.ensures)
    (subst (λ o. IsBookless before lines first (g.O.Sink.tells o) (book_status c.in-Err.error)) (sym left.outbox) (bookless before lines first (g.O.Sink.tells c.in-Err.outbox) c.in-Err.error e.behind e.ahead e.differs e.cause))

pub returns-in-Err-clause-untouched : goal.returns-in-Err-clause-untouched
returns-in-Err-clause-untouched g c = λ f. (
  refl,
  subst (λ (o : SinkTells). IsLeft o (g.O.Sink.tells c.held_back.result.outbox)) (sym c.requires.outbox)
      (subst (λ o. IsLeft g.S.StartName.outbox (g.O.Sink.tells o)) (sym c.held_back.ensures.outbox) c.in-Err.ensures.back),
)

pub close-requires-clause-course : goal.close-requires-clause-course
close-requires-clause-course g c =
    course_taken _ _ _ _ _ _ _ _ _ _ (finished_taken g.D.Disk.tells g.S.StartName.base _ _ _ c.args.front c.serve_all-book.new.front _ _ _ _ c.requires.opened (g.met.D.Disk.lawful _) c.serve_all-book.ensures.takes)

pub returns-clause-gone : goal.returns-clause-gone
returns-clause-gone g c =
    let e = c.close.ensures in
    let t = c.serve_all-book.ensures in
    gone_course g.D.Disk.tells g.S.StartName.base g.O.Sink.tells _ _ _ _ _ _ _ c.close.result c.serve_all-book.new.front c.serve_all-book.result.1 e.began e.disk e.entries e.status t.ended.unprinted t.ended.wire c.in-Ok.ensures.mendable
    (finished_taken g.D.Disk.tells g.S.StartName.base _ _ _ c.args.front c.serve_all-book.new.front _ _ _ _ c.requires.opened (g.met.D.Disk.lawful _) t.takes) e.outbox e.lines e.counts
