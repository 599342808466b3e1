use Rattle.std.proofs.Common.{◌+◌, ◌∷◌, [], List, take, drop, sym, ◌∙◌, ap, subst, refl, append_assoc}
use Rattle.entry_laws.specs.InForce.{FitsLog}
use Rattle.entry_step.specs.Log.{log_of}
use Rattle.intake_journal.specs.declared.format.Group.{Group}
use Rattle.intake_front.specs.Fronted.{numbered_of}
use Rattle.intake_front.specs.Misfit.{HasReached}
use Rattle.intake_front.proofs.Misfits.{confs_groups, log_group, split_at, take_next}
use Rattle.intake_front.proofs.fitting.first_misfit.Goals as goal

pub loop-group-init : goal.loop-group-init
loop-group-init c = λ flat start stands are. c.judged_on-judged.ensures flat start stands

pub returns-then-not-group_fits : goal.returns-then-not-group_fits
returns-then-not-group_fits c flat start stands are =
    let gs = c.args.kept.now in
    let i = c.loop-group.group-index in
    let h = c.group-item.result in
    let before = take i gs in
    let number = start.number in
    let so_far = c.loop-group.invariant flat start stands are in
    let split = split_at gs i h c.loop-group-test.true c.group-item.is in
    let confs_here = confs_groups flat start.stage.conf.text number c.args.confs.now gs before h (drop (i + 1) gs) are (split ∙ sym (append_assoc before (h ∷ []) (drop (i + 1) gs))) in
    let misfits = c.if-not-group_fits.ensures flat start number (log_of (numbered_of number before)) confs_here.0 so_far confs_here.1 in
    (before, h, drop (i + 1) gs, split, refl, so_far.fits, λ all. misfits (subst (FitsLog flat start) (log_group number before h) all))

pub loop-group-preserved : goal.loop-group-preserved
loop-group-preserved c flat start stands are =
    let gs = c.args.kept.now in
    let i = c.loop-group.group-index in
    let h = c.group-item.result in
    let before = take i gs in
    let number = start.number in
    let split = split_at gs i h c.loop-group-test.true c.group-item.is in
    let confs_here = confs_groups flat start.stage.conf.text number c.args.confs.now gs before h (drop (i + 1) gs) are (split ∙ sym (append_assoc before (h ∷ []) (drop (i + 1) gs))) in
    let reaches = c.if-not-group_fits.ensures flat start number (log_of (numbered_of number before)) confs_here.0 (c.loop-group.invariant flat start stands are) confs_here.1 in
    let same = ap (λ (l : List Group). log_of (numbered_of number l)) (take_next gs i h c.loop-group-test.true c.group-item.is) ∙ log_group number before h in
    subst (λ log. HasReached flat start log c.group_fits.new.judged) (sym same) reaches
