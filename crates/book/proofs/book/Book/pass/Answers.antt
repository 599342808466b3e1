use Rattle.std.proofs.Common.{◌≡◌, ◌<◌, ◌≤◌, length, get_or, sym, subst, arith}
use Rattle.syncer_gate.specs.declared.marks.Mark.TheVariants.{Pending, Applied}
use Rattle.book.specs.Book.{BookView, AreApplied}
use Rattle.book.proofs.Books.{passed}
use Rattle.book.proofs.book.Book.pass.Goals as goal

pub invariant_of-self-2 : goal.invariant_of-self-2
invariant_of-self-2 g c =
    let v = sym c.self.view_is in
    let before : c.self.inside.frontier < c.args.applied = subst (λ (b : BookView). b.frontier < c.args.applied) v c.requires.before in
    let within : c.args.applied ≤ length c.self.inside.progress.entries = subst (λ (b : BookView). c.args.applied ≤ length b.entries) v c.requires.within in
    let here : get_or c.self.inside.progress.gate.marks c.self.inside.frontier Pending ≡ Applied = subst (λ (b : BookView). AreApplied b.gate.marks c.args.applied) v c.requires.applied c.self.inside.frontier before in
    let below : c.self.inside.frontier < length c.self.inside.progress.entries = omega (arith, before, within) in
    passed _ _ _ _ _ _ _ _ g.S.StartName.start _ _ _ c.self.invariant g.S.StartName.first c.records-records.ensures.whole.plain below here (c.records-records.ensures.next below here) c.in_ok-add_lines.ensures.tally c.in_ok-add_lines.ensures.lines
