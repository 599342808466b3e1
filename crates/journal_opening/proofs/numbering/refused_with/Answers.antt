use Rattle.std.proofs.Common.{◌++◌, map, All, ap, ◌∙◌, subst}
use Rattle.journal_opening.specs.Replayed.{flat, IsFlat, texts_in}
use Rattle.journal_opening.specs.Recovered.{AreTaken}
use Rattle.journal_opening.proofs.Judging.{match_true, match_false, taken_more, taken_refused, taken_still}
use Rattle.journal_opening.proofs.numbering.refused_with.Goals as goal

pub returns-in-Some-clause-taken : goal.returns-in-Some-clause-taken
returns-in-Some-clause-taken c = λ base groups taken.
    taken_still base groups c.args.group.now c.in-Some.at c.args.confs.now.items c.args.confs.now.items (subst (λ o. AreTaken base groups o c.args.confs.now.items) c.in-Some.is taken)

pub returns-then-branch-clause-taken : goal.returns-then-branch-clause-taken
returns-then-branch-clause-taken c = λ base groups taken.
    let more = match_true _ c.in_ok-put_group-in-None.field-0 c.if-branch.true c.in_ok-put_group-in-None.ensures in
    taken_more base groups c.args.group.now c.args.confs.now.items c.put_group.new.confs.items (subst (λ o. AreTaken base groups o c.args.confs.now.items) c.in-None.is taken)
    (subst (λ es. All IsFlat (texts_in es)) c.as_slice.ensures more.0) (more.1 ∙ ap (λ es. c.args.confs.now.items ++ map flat (texts_in es)) c.as_slice.ensures)

pub returns-else-branch-clause-taken : goal.returns-else-branch-clause-taken
returns-else-branch-clause-taken c = λ base groups taken.
    taken_refused base groups c.args.group.now c.args.confs.now.items c.put_group.new.confs.items (subst (λ o. AreTaken base groups o c.args.confs.now.items) c.in-None.is taken)
    (subst (λ es. ¬ (All IsFlat (texts_in es))) c.as_slice.ensures (match_false _ c.in_ok-put_group-in-None.field-0 c.if-branch.false c.in_ok-put_group-in-None.ensures))
