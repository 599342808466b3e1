use Rattle.std.proofs.Common.{◌≡◌, ◌++◌, ⊎_elim, arith}
use Rattle.server_words.specs.declared.status.Status.TheVariants as status
use Rattle.server_run.proofs.Going.{sent_prefix, sent_all}
use Rattle.server_run.proofs.Outbox.{written_whole, written_front}
use Rattle.server_run.proofs.course.finish.Goals as goal

pub returns-in-Ok-clause-lines : goal.returns-in-Ok-clause-lines
returns-in-Ok-clause-lines g c = λ entries sent.
    written_whole g.S.StartName.flat g.S.StartName.base (g.S.StartName.kept ++ c.args.head.sent) entries _ _ c.args.status c.requires.course (λ spent. sent_prefix g.S.StartName.kept c.args.head.sent entries c.args.status sent) (λ other. sent_all g.S.StartName.kept c.args.head.sent entries c.args.status sent other) c.in-Ok.ensures.lines

pub returns-in-Err-clause-lines : goal.returns-in-Err-clause-lines
returns-in-Err-clause-lines g c = λ entries sent.
    written_front g.S.StartName.flat g.S.StartName.base (g.S.StartName.kept ++ c.args.head.sent) entries _ _ c.worse.result c.worse.ensures.either (sent_prefix g.S.StartName.kept c.args.head.sent entries c.args.status sent) c.in-Err.ensures.front

pub returns-in-Err-clause-outbox : goal.returns-in-Err-clause-outbox
returns-in-Err-clause-outbox g c = λ is. omega (arith, c.faults-since.ensures.now, c.faults-since.ensures.since, c.in-Err.ensures.cause (c.worse.ensures.fault is))

pub returns-in-Err-clause-counts : goal.returns-in-Err-clause-counts
returns-in-Err-clause-counts g c = λ well. ⊎_elim (λ spent. absurd (other spent well)) (λ fault. absurd (another fault well)) c.worse.ensures.either
  where
    other : c.worse.result ≡ status.OutOfMemory → c.worse.result ≡ status.Ok → ⊥
    other a b = cc

    another : c.worse.result ≡ status.OutboxFault → c.worse.result ≡ status.Ok → ⊥
    another a b = cc
