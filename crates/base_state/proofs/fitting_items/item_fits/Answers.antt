use Rattle.std.proofs.Common.{rules, ◌≡◌, ◌∙◌, ◌≤◌, true, false, ap, subst, IsTrue, ◌↔◌, IfOk, arith}
use Rattle.std.specs.Prelude.{count_by}
use Rattle.zbx_types.specs.declared.base.BaseValue.{BaseValue}
use Rattle.entry_step.specs.Each.{Each, EachPair}
use Rattle.base_laws.specs.FitsBase.{FitsItem}
use Rattle.base_state.specs.Fitting.{FitsValue, StandsBefore, is_old, FitSteps}
use Rattle.base_state.proofs.Pairs.{no, is_not, ok_well}
use Rattle.base_state.proofs.Parts.{item_parts, parts_item}
use Rattle.base_state.proofs.fitting_items.item_fits.Goals as goal

pub returns-then-not-ordered : goal.returns-then-not-ordered
returns-then-not-ordered c =
    let off : c.are_in_order-ordered.result ≡ false = search rules in
    let own = subst (λ vs. IsTrue c.are_in_order-ordered.result ↔ EachPair StandsBefore vs) c.as_slice-values.ensures c.are_in_order-ordered.ensures in
    no (FitsItem c.args.keep c.args.number c.args.now c.args.item.now c.args.kept.now)
    (λ f. is_not c.are_in_order-ordered.result (EachPair StandsBefore c.args.kept.now.values) off own (parts_item c.args.keep c.args.number c.args.now c.args.item.now c.args.kept.now f).0)

pub returns-then-old-keep : goal.returns-then-old-keep
returns-then-old-keep c =
    let old : c.count_old-old.result ≡ count_by (is_old c.args.keep c.args.now) c.args.kept.now.values = c.count_old-old.ensures ∙ ap (count_by (is_old c.args.keep c.args.now)) c.as_slice-values.ensures in
    let more = c.if-old-keep.true in
    no (FitsItem c.args.keep c.args.number c.args.now c.args.item.now c.args.kept.now)
    (λ f. (let few : count_by (is_old c.args.keep c.args.now) c.args.kept.now.values ≤ c.args.keep.count = (parts_item c.args.keep c.args.number c.args.now c.args.item.now c.args.kept.now f).1.0 in omega (arith, old, more, few)))

pub returns-then-not-told : goal.returns-then-not-told
returns-then-not-told c =
    let off : c.in_ok-told.told ≡ false = search rules in
    let own = subst (λ vs. IsTrue c.in_ok-told.told ↔ Each (FitsValue c.args.item.now.value_type c.args.number c.args.now) vs) c.as_slice-values.ensures c.in_ok-told.ensures in
    no (FitsItem c.args.keep c.args.number c.args.now c.args.item.now c.args.kept.now)
    (λ f. is_not c.in_ok-told.told (Each (FitsValue c.args.item.now.value_type c.args.number c.args.now) c.args.kept.now.values) off own
    (parts_item c.args.keep c.args.number c.args.now c.args.item.now c.args.kept.now f).1.1.0)

pub returns : goal.returns
returns c =
    let ordered_on : c.are_in_order-ordered.result ≡ true = search rules in
    let told_on : c.in_ok-told.told ≡ true = search rules in
    let others_on : c.in_ok-others.others ≡ true = search rules in
    let ordered = (subst (λ vs. IsTrue c.are_in_order-ordered.result ↔ EachPair StandsBefore vs) c.as_slice-values.ensures c.are_in_order-ordered.ensures).0 ordered_on in
    let told = (subst (λ vs. IsTrue c.in_ok-told.told ↔ Each (FitsValue c.args.item.now.value_type c.args.number c.args.now) vs) c.as_slice-values.ensures c.in_ok-told.ensures).0 told_on in
    let others = (subst (λ vs. IsTrue c.in_ok-others.others ↔ EachPair (λ (v w : BaseValue). v.number ≡ w.number → ⊥) vs) c.as_slice-values.ensures c.in_ok-others.ensures).0 others_on in
    let old : c.count_old-old.result ≡ count_by (is_old c.args.keep c.args.now) c.args.kept.now.values = c.count_old-old.ensures ∙ ap (count_by (is_old c.args.keep c.args.now)) c.as_slice-values.ensures in
    let less = c.if-old-keep.false in
    let few : count_by (is_old c.args.keep c.args.now) c.args.kept.now.values ≤ c.args.keep.count = omega (arith, old, less) in
    let steps : IfOk c.steps_fit.result (λ b. IsTrue b ↔ FitSteps c.args.now c.args.item.now.steps c.args.kept.now.steps) =
    subst (λ ks. IfOk c.steps_fit.result (λ b. IsTrue b ↔ FitSteps c.args.now c.args.item.now.steps ks)) c.as_slice-2.ensures
    (subst (λ ss. IfOk c.steps_fit.result (λ b. IsTrue b ↔ FitSteps c.args.now ss c.as_slice-2.result.now)) c.as_slice.ensures c.steps_fit.ensures) in
    ok_well c.steps_fit.result (FitSteps c.args.now c.args.item.now.steps c.args.kept.now.steps) (FitsItem c.args.keep c.args.number c.args.now c.args.item.now c.args.kept.now)
    (λ fit. item_parts c.args.keep c.args.number c.args.now c.args.item.now c.args.kept.now (ordered, (few, (told, (others, fit)))))
    (λ f. (parts_item c.args.keep c.args.number c.args.now c.args.item.now c.args.kept.now f).1.1.1.1) steps
