use Rattle.std.proofs.Common.{rules, ◌≡◌, Some, None}
use Rattle.zbx_types.specs.Ids.{at_id}
use Rattle.base_laws.specs.FitsBase.{FitsItem}
use Rattle.base_state.specs.Fitting.{FitsAt}
use Rattle.base_state.proofs.Fitted.{item_at, at_item}
use Rattle.base_state.proofs.Histories.{no_keep}
use Rattle.base_state.proofs.Pairs.{yes, ok_well}
use Rattle.base_state.proofs.fitting.fits_at.Goals as goal

pub returns-in-None-by_id-2 : goal.returns-in-None-by_id-2
returns-in-None-by_id-2 c =
    let none : at_id c.args.keeps.now c.args.id ≡ None = search rules in
    yes (FitsAt c.args.conf.now c.args.base.now c.args.id) (λ item kept there at. absurd (no_keep c.args.conf.now c.args.keeps.now c.args.id item c.requires there none))

pub returns-in-Some-by_id-2 : goal.returns-in-Some-by_id-2
returns-in-Some-by_id-2 c =
    let there : at_id c.args.conf.now.items c.args.id ≡ Some c.in-Some.item.now = search rules in
    let at : at_id c.args.base.now.items c.args.id ≡ Some c.in-Some-by_id.kept.now = search rules in
    let its : at_id c.args.keeps.now c.args.id ≡ Some c.in-Some-by_id-2.keep.now = search rules in
    ok_well c.item_fits.result (FitsItem c.in-Some-by_id-2.keep.now c.args.base.now.number c.args.base.now.now c.in-Some.item.now c.in-Some-by_id.kept.now) (FitsAt c.args.conf.now c.args.base.now c.args.id)
    (item_at c.args.conf.now c.args.base.now c.args.keeps.now c.args.id c.in-Some.item.now c.in-Some-by_id.kept.now c.in-Some-by_id-2.keep.now c.requires there at its)
    (at_item c.args.conf.now c.args.base.now c.args.keeps.now c.args.id c.in-Some.item.now c.in-Some-by_id.kept.now c.in-Some-by_id-2.keep.now c.requires there at its) c.item_fits.ensures
