use Rattle.std.proofs.Common.{◌≤◌, ap, length, arith}
use Rattle.book.specs.Progress.{ProgressView}
use Rattle.book.proofs.Finishing.{left_start, left_more, left_none}
use Rattle.book.proofs.progress.Progress.work_all.Goals as goal

pub loop-entry-init : goal.loop-entry-init
loop-entry-init g c =
    left_start c.args.self.now.entries c.reopen.new.self.entries c.args.self.now.gate.marks c.reopen.new.self.gate.marks (ap (λ (p : ProgressView). p.entries) c.reopen.ensures.reopened) (ap (λ (p : ProgressView). p.gate.marks) c.reopen.ensures.reopened) c.reopen.ensures.size

pub loop-entry-preserved : goal.loop-entry-preserved
loop-entry-preserved g c =
    left_more c.args.self.now.entries c.loop-entry.self.entries c.work_one.new.self.entries c.args.self.now.gate.marks c.loop-entry.self.gate.marks c.work_one.new.self.gate.marks c.loop-entry._entry c.loop-entry.invariant c.work_one.ensures.entries (c.in_ok-work_one.ensures.more c.if-not-branch.false)

pub returns-clause-all : goal.returns-clause-all
returns-clause-all g c = λ i l.
    let a = c.len-entry-end.ensures in
    let b = ap length (ap (λ (p : ProgressView). p.entries) c.reopen.ensures.reopened) in
    let t = c.loop-entry-test.false in
    let enough : length c.args.self.now.entries ≤ c.loop-entry._entry = omega arith in
    left_none c.args.self.now.entries c.loop-entry.self.entries c.args.self.now.gate.marks c.loop-entry.self.gate.marks c.loop-entry._entry i c.loop-entry.invariant enough l
