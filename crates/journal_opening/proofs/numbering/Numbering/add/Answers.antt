use Rattle.std.proofs.Common.{◌≡◌, [], ◌∷◌, ◌++◌, rules, refl, sym, subst}
use Rattle.intake_front.specs.Intake.{with_group}
use Rattle.journal_opening.specs.Recovered.{AreTaken}
use Rattle.journal_opening.proofs.Judging.{numbers_more}
use Rattle.journal_opening.proofs.numbering.Numbering.add.Goals as goal

pub returns : goal.returns
returns c = λ base groups are.
    let more : c.number_group.new.numbered ≡ with_group c.args.self.now.before c.args.self.now.entries c.args.group.entries = search rules in
    let step = c.in_ok-self.ensures in
    let taken = step.taken base groups are.taken in
    let slice = subst (AreTaken base (groups ++ c.args.group ∷ []) c.in_ok-self.field-0) (sym c.as_slice.ensures.value) taken in
    numbers_more base groups c.args.group c.args.self.now
    (record {
      before = c.args.self.now.before;
      entries = c.number_group.new.numbered;
      confs = c.refused_with.new.confs;
      refused = c.in_ok-self.field-0;
      misfit = c.judged_with-self.result;
      judge = c.judged_with-self.new.judge;
    }) are refl more taken
    (λ none. c.judged_with-self.ensures base groups are.stands slice (are.judged (step.stays none)) none)
