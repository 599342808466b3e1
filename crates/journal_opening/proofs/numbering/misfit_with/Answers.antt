use Rattle.std.proofs.Common.{◌≡◌, None, rules, subst}
use Rattle.entry_step.specs.Log.{log_of}
use Rattle.intake_front.specs.Fronted.{numbered_of}
use Rattle.intake_front.specs.Misfit.{IsFirstMisfit}
use Rattle.base_laws.specs.Grounds.{start_of}
use Rattle.journal_opening.specs.Replayed.{flat}
use Rattle.journal_opening.proofs.Judging.{judged_more, judged_misfit, confs_with}
use Rattle.journal_opening.proofs.numbering.misfit_with.Goals as goal

pub returns-then-judge : goal.returns-then-judge
returns-then-judge c = λ base groups stands taken are.
    let start = start_of flat base in
    let is : c.args.misfit ≡ None = search rules in
    judged_more start groups c.args.group.now c.judge.new.self
    (c.if-judge.ensures flat start start.number (log_of (numbered_of start.number groups)) (are.goes_on is) (confs_with base start groups c.args.group.now c.args.confs.now stands taken))

pub returns-else-judge : goal.returns-else-judge
returns-else-judge c = λ base groups stands taken are.
    let start = start_of flat base in
    let is : c.args.misfit ≡ None = search rules in
    let fits = subst (IsFirstMisfit flat start groups) is are.misfit_is in
    judged_misfit start groups c.args.group.now c.judge.new.self fits
    (c.if-judge.ensures flat start start.number (log_of (numbered_of start.number groups)) (are.goes_on is) (confs_with base start groups c.args.group.now c.args.confs.now stands taken))
