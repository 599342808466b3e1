use Rattle.std.proofs.Common.{take, refl, ◌+◌, length, ap, subst, sym, ◌∙◌}
use Rattle.zbx_types.specs.declared.base.Base.{Base}
use Rattle.intake_journal.specs.Block.{opened_bytes}
use Rattle.intake_front.specs.Intake.{with_group}
use Rattle.intake_front.specs.Fronted.{HasJournaled, all_of}
use Rattle.intake_front.proofs.Commits.{kept_waiting, commit_written}
use Rattle.intake_front.proofs.batch.commit.Goals as goal

pub returns-then-is_kept-clause-written : goal.returns-then-is_kept-clause-written
returns-then-is_kept-clause-written g c =
    let i = c.args.held.now in
    let b = c.args.batch.now in
    let w = c.write-is_kept.ensures in
    commit_written (g.D.Disk.tells c.args.journal.now.disk) (g.D.Disk.tells c.write-is_kept.new.journal.disk) c.args.journal.now.base i b c.requires.waiting.batch c.requires.waiting.number w.later w.told
    (w.any_moment (take b.mark.kept i.entries) b.mark.bytes (c.requires.waiting.journaled c.requires.ready))

pub returns-then-is_kept-clause-waiting : goal.returns-then-is_kept-clause-waiting
returns-then-is_kept-clause-waiting g c =
    let i = c.args.held.now in
    let b = c.args.batch.now in
    let w = c.write-is_kept.ensures in
    let kept = take b.mark.kept i.entries in
    kept_waiting g.D.Disk.tells c.write-is_kept.new.journal i b _ c.requires.waiting.batch (c.requires.waiting.number ∙ ap (λ (k : Base). k.number) (sym w.base))
    (subst (λ (k : Base). HasJournaled g.D.Disk.tells c.write-is_kept.new.journal (with_group k.number kept (all_of b.block)) (b.mark.bytes + length (opened_bytes b.block))) (sym w.base)
    (w.kept c.if-is_kept.true kept b.mark.bytes (c.requires.waiting.journaled c.requires.ready)))
    c.clear.ensures c.replace-first.ensures.after refl c.of-batch.ensures.value c.of-batch.ensures.few

pub returns-in-Some-clause-written : goal.returns-in-Some-clause-written
returns-in-Some-clause-written g c =
    let i = c.args.held.now in
    let b = c.args.batch.now in
    let w = c.write-is_kept.ensures in
    commit_written (g.D.Disk.tells c.args.journal.now.disk) (g.D.Disk.tells c.write-is_kept.new.journal.disk) c.args.journal.now.base i b c.requires.waiting.batch c.requires.waiting.number w.later w.told
    (w.any_moment (take b.mark.kept i.entries) b.mark.bytes (c.requires.waiting.journaled c.requires.ready))
