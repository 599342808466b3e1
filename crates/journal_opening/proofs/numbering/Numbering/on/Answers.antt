use Rattle.std.proofs.Common.{◌++◌, List, [], map, refl, ap, ◌∙◌}
use Rattle.zbx_types.specs.declared.conf.Conf.{Conf}
use Rattle.entry_laws.specs.InForce.{texts_on}
use Rattle.base_laws.specs.Grounds.{start_of}
use Rattle.journal_opening.specs.Replayed.{flat}
use Rattle.journal_opening.proofs.Bases.{stands_of, few_of}
use Rattle.journal_opening.proofs.Judging.{match_true, none_numbered}
use Rattle.journal_opening.proofs.numbering.Numbering.on.Goals as goal

pub returns-clause-good : goal.returns-clause-good
returns-clause-good c =
    let base = c.args.base.now in
    let taken = match_true _ c.in_ok-put_base.field-0 c.if-not-branch.false c.in_ok-put_base.ensures in
    let good = taken.0 in
    let confs = taken.1 ∙ ap (λ (l : List Conf). l ++ map flat (texts_on base.text [])) c.new-confs.ensures.items in
    (good, none_numbered base _ good.0 (few_of base good) (stands_of base good) refl c.new.ensures confs refl refl (c.on.ensures flat (start_of flat base) (stands_of base good)))
