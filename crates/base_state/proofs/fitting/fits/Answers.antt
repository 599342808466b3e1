use Rattle.std.proofs.Common.{rules, ◌≡◌, ◌≤◌, true, false, subst, IsTrue, ◌↔◌, IfOk}
use Rattle.base_laws.specs.FitsBase.{most_counted, FitTicks, FitsBase}
use Rattle.base_state.specs.Fitting.{FitItems, FitProblems}
use Rattle.base_state.proofs.Fitted.{fits_all, fit_items, fit_problems}
use Rattle.base_state.proofs.Pairs.{no, is_not, ok_well}
use Rattle.base_state.proofs.fitting.fits.Goals as goal

pub returns-then-not-items : goal.returns-then-not-items
returns-then-not-items c =
    let off : c.in_ok-items.items ≡ false = search rules in
    no (FitsBase c.args.conf.now c.args.base.now)
    (λ f. is_not c.in_ok-items.items (FitItems c.args.conf.now c.args.base.now) off c.in_ok-items.ensures (fit_items c.args.conf.now c.args.base.now f))

pub returns : goal.returns
returns c =
    let on : c.in_ok-items.items ≡ true = search rules in
    let number : c.args.base.now.number ≤ most_counted = search rules in
    let lines : c.args.base.now.lines ≤ most_counted = search rules in
    let ticks : FitTicks c.args.base.now.now c.args.base.now.first_tick c.args.base.now.last_tick = search rules in
    let problems : IfOk c.problems_fit.result (λ b. IsTrue b ↔ FitProblems c.args.conf.now c.args.base.now.number c.args.base.now.now c.args.base.now.problems) =
    subst (λ ps. IfOk c.problems_fit.result (λ b. IsTrue b ↔ FitProblems c.args.conf.now c.args.base.now.number c.args.base.now.now ps)) c.as_slice.ensures c.problems_fit.ensures in
    ok_well c.problems_fit.result (FitProblems c.args.conf.now c.args.base.now.number c.args.base.now.now c.args.base.now.problems) (FitsBase c.args.conf.now c.args.base.now)
    (fits_all c.args.conf.now c.args.base.now number lines ticks (c.in_ok-items.ensures.0 on)) (fit_problems c.args.conf.now c.args.base.now) problems
