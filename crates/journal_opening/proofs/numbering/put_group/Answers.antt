use Rattle.journal_opening.proofs.Judging.{match_true, match_false, entry_taken, confs_next, entry_refused}
use Rattle.journal_opening.proofs.numbering.put_group.Goals as goal

pub returns-then-not-branch : goal.returns-then-not-branch
returns-then-not-branch c =
    entry_refused c.args.entries.now c.loop-entry.entry-index c.entry-item.result c.loop-entry-test.true c.entry-item.is (match_false _ c.in_ok-put_entry.field-0 c.if-not-branch.true c.in_ok-put_entry.ensures)

pub loop-entry-preserved : goal.loop-entry-preserved
loop-entry-preserved c =
    let i = c.loop-entry.invariant in
    let e = c.entry-item.result in
    let within = c.loop-entry-test.true in
    let more = match_true _ c.in_ok-put_entry.field-0 c.if-not-branch.false c.in_ok-put_entry.ensures in
    record {
      all = entry_taken c.args.entries.now c.loop-entry.entry-index e within c.entry-item.is i.all more.0;
      confs_are = confs_next c.args.entries.now c.loop-entry.entry-index e c.args.confs.now.items c.loop-entry.confs.items c.put_entry.new.confs.items within c.entry-item.is i.confs_are more.1;
    }
