use Rattle.std.proofs.Common.{◌≡◌, ◌≤◌, ◌<◌, length, get_or, List, sym, ◌∙◌, ap, subst, arith}
use Rattle.std.specs.List.{list_any}
use Rattle.std.proofs.lemmas.List.{take_all}
use Rattle.zbx_types.specs.declared.maintenances.Maintenance.{Maintenance}
use Rattle.intake_front.proofs.Collecting.{is_out, none_more, all_collected}
use Rattle.intake_front.proofs.taking.some_keeps_out.Goals as goal

pub loop-place-preserved : goal.loop-place-preserved
loop-place-preserved c =
    let conf = c.args.conf.now in
    let place = c.loop-place.place in
    let m = c.maintenance-item.result in
    let all : c.as_slice-maintenance-items.result.now ≡ conf.maintenances = c.as_slice-maintenance-items.ensures in
    let within : place < length conf.maintenances = subst (λ (ms : List Maintenance). place < length ms) all c.loop-place-test.true in
    let there : m ≡ get_or conf.maintenances place m = c.maintenance-item.is ∙ ap (λ (ms : List Maintenance). get_or ms place m) all in
    none_more conf c.args.now place c.in_ok-id_of.field-0 m within there c.in_ok-id_of.ensures (sym c.if-keeps_out.ensures) c.loop-place.invariant

pub returns : goal.returns
returns c =
    let conf = c.args.conf.now in
    let place = c.loop-place.place in
    let past : length conf.maintenances ≤ place = omega (arith, c.loop-place-test.false, ap (λ (ms : List Maintenance). length ms) c.as_slice-maintenance-items.ensures) in
    λ none. all_collected conf c.args.now (ap (list_any (is_out conf c.args.now)) (sym (take_all place conf.maintenances past)) ∙ c.loop-place.invariant)
