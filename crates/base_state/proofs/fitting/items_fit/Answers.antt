use Rattle.std.proofs.Common.{rules, ◌≡◌, ◌≤◌, length, true, false, subst}
use Rattle.base_state.specs.Fitting.{FitsAt, FitItems}
use Rattle.base_state.proofs.Fitted.{items_none, items_more, items_whole}
use Rattle.base_state.proofs.Pairs.{yes, no, is_not}
use Rattle.base_state.proofs.fitting.items_fit.Goals as goal

pub loop-place-init : goal.loop-place-init
loop-place-init c = items_none c.args.conf.now c.args.base.now

pub returns-then-not-fits : goal.returns-then-not-fits
returns-then-not-fits c =
    let off : c.in_ok-fits.fits ≡ false = search rules in
    no (FitItems c.args.conf.now c.args.base.now) (λ f. is_not c.in_ok-fits.fits (FitsAt c.args.conf.now c.args.base.now c.in_ok-id_of.field-0) off c.in_ok-fits.ensures (f.1 c.in_ok-id_of.field-0))

pub loop-place-preserved : goal.loop-place-preserved
loop-place-preserved c =
    let on : c.in_ok-fits.fits ≡ true = search rules in
    items_more c.args.conf.now c.args.base.now c.loop-place.place (subst (FitsAt c.args.conf.now c.args.base.now) c.in_ok-id_of.ensures (c.in_ok-fits.ensures.0 on)) c.loop-place.invariant

pub returns : goal.returns
returns c =
    let same : length c.args.base.now.items ≡ length c.args.conf.now.items = search rules in
    let past : length c.args.base.now.items ≤ c.loop-place.place = search rules in
    yes (FitItems c.args.conf.now c.args.base.now) (items_whole c.args.conf.now c.args.base.now c.loop-place.place same past c.loop-place.invariant)
