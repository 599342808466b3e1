use Rattle.std.proofs.Common.{◌≡◌, ◌∙◌, true, false, sym}
use Rattle.entry_step.specs.Each.{EachPair}
use Rattle.base_state.specs.Fitting.{is_after, StandsBefore}
use Rattle.base_state.proofs.Pairs.{no, pairs_on, pairs_at}
use Rattle.base_state.proofs.Parts.{before_trans}
use Rattle.base_state.proofs.fitting_items.are_in_order.Goals as goal

pub returns-then-is_after : goal.returns-then-is_after
returns-then-is_after c = no (EachPair StandsBefore c.args.values.now) (λ e.
    (let r = pairs_at StandsBefore c.args.values.now c.loop-place.place c.index-values-place.result c.index-values-place-in-loop-place.result c.loop-place.auto.place c.loop-place-test.true c.index-values-place.is
    c.index-values-place-in-loop-place.is e in
    let t : is_after c.index-values-place.result c.index-values-place-in-loop-place.result ≡ true = sym c.is_after.ensures ∙ c.if-is_after.true in
    let clash : true ≡ false = sym t ∙ r in absurd (cc)))

pub loop-place-preserved : goal.loop-place-preserved
loop-place-preserved c =
    pairs_on StandsBefore c.args.values.now c.loop-place.place c.index-values-place.result c.index-values-place-in-loop-place.result c.loop-place.auto.place c.loop-place-test.true c.index-values-place.is
    c.index-values-place-in-loop-place.is before_trans (sym c.is_after.ensures ∙ c.if-is_after.false) c.loop-place.invariant
