use Rattle.std.proofs.Common.{rules, ◌≡◌, length, true}
use Rattle.base_state.specs.Fitting.{FitSteps}
use Rattle.base_state.proofs.Fitted.{steps_more, steps_whole}
use Rattle.base_state.proofs.Pairs.{yes}
use Rattle.base_state.proofs.fitting_items.steps_fit.Goals as goal

pub loop-place-preserved : goal.loop-place-preserved
loop-place-preserved c =
    let same : length c.args.kept.now ≡ length c.args.steps.now = search rules in
    let on : c.in_ok-fits.fits ≡ true = search rules in
    steps_more c.args.now c.args.steps.now c.args.kept.now c.loop-place.place c.index-steps-place.result c.index-kept-place.result same c.loop-place-test.true c.index-steps-place.is c.index-kept-place.is
    (c.in_ok-fits.ensures.0 on) c.loop-place.invariant

pub returns : goal.returns
returns c =
    let same : length c.args.kept.now ≡ length c.args.steps.now = search rules in
    yes (FitSteps c.args.now c.args.steps.now c.args.kept.now) (steps_whole c.args.now c.args.steps.now c.args.kept.now c.loop-place.place same c.loop-place-test.false c.loop-place.invariant)
