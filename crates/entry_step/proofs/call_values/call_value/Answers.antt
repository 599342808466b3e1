use Rattle.std.proofs.Common.{rules, ◌≡◌, ◌∙◌, Some, None, ap, sym, slice_get}
use Rattle.zbx_types.specs.Ids.{at_id}
use Rattle.value_cache.specs.Windows.{window_of}
use Rattle.history_functions.specs.Functions.{value_of}
use Rattle.entry_step.specs.Kept.{still_to_come, IsCalled}
use Rattle.entry_step.proofs.Asking.{call_none, item_none, call_is, window_none, empty_of, seen_of_cell}
use Rattle.preprocess.proofs.InCache.{in_found}
use Rattle.entry_step.proofs.Histories.{get_in}
use Rattle.entry_step.proofs.Represented.{ok_sub}
use Rattle.entry_step.proofs.call_values.call_value.Goals as goal

pub returns-in_default : goal.returns-in_default
returns-in_default c =
    let none : slice_get c.args.calls.now.trigger.now.calls c.args.place ≡ None = search rules in
    λ items sees. call_none items c.args.calls.now.occasion c.args.calls.now.ready.now.conf.utc_offset c.args.calls.now.trigger.now c.args.place none

pub returns-in_default-item_at : goal.returns-in_default-item_at
returns-in_default-item_at c =
    let there : slice_get c.args.calls.now.trigger.now.calls c.args.place ≡ Some c.in-Some.call.now = search rules in
    let none : slice_get c.args.calls.now.trigger.now.call_items c.args.place ≡ None = search rules in
    λ items sees. item_none items c.args.calls.now.occasion c.args.calls.now.ready.now.conf.utc_offset c.args.calls.now.trigger.now c.args.place c.in-Some.call.now there none

pub value_over-requires : goal.value_over-requires
value_over-requires c =
    let there : slice_get c.args.calls.now.trigger.now.calls c.args.place ≡ Some c.in-Some.call.now = search rules in
    (c.place_of-pattern.ensures c.args.calls.now.trigger.now c.in-Some.call.now c.requires.trigger there).0

pub value_in-requires-clause-pattern : goal.value_in-requires-clause-pattern
value_in-requires-clause-pattern c =
    let there : slice_get c.args.calls.now.trigger.now.calls c.args.place ≡ Some c.in-Some.call.now = search rules in
    (c.place_of-pattern.ensures c.args.calls.now.trigger.now c.in-Some.call.now c.requires.trigger there).0

pub returns-in-None : goal.returns-in-None
returns-in-None c =
    let there : slice_get c.args.calls.now.trigger.now.calls c.args.place ≡ Some c.in-Some.call.now = search rules in
    let item : slice_get c.args.calls.now.trigger.now.call_items c.args.place ≡ Some c.in-Some-item_at.item = search rules in
    let none : at_id c.args.calls.now.items.now c.in-Some-item_at.item ≡ None = search rules in
    let called : IsCalled c.args.calls.now.ready.now.conf c.args.calls.now.id c.in-Some-item_at.item = (c.args.calls.now.trigger.now, c.requires.trigger, get_in c.args.calls.now.trigger.now.call_items c.args.place c.in-Some-item_at.item item) in
    ok_sub c.value_over.result _ _
    (λ v e items sees.
    e ∙ ap (λ xs. value_of c.in-Some.call.now xs c.args.calls.now.occasion.now c.args.calls.now.occasion.tick c.args.calls.now.ready.now.conf.utc_offset)
    (c.plain.ensures ∙ window_none c.in-Some.call.now.range c.in-Some.call.now.shift c.args.calls.now.occasion.now
    ∙ ap (window_of c.in-Some.call.now.range c.in-Some.call.now.shift c.args.calls.now.occasion.now)
    (sym (empty_of c.args.calls.now.ready.now.conf c.args.calls.now.items.now (still_to_come c.args.calls.now.coming.now) c.args.calls.now.occasion.now items c.args.calls.now.id c.in-Some-item_at.item none sees called)))
    ∙ call_is items c.args.calls.now.occasion c.args.calls.now.ready.now.conf.utc_offset c.args.calls.now.trigger.now c.args.place c.in-Some.call.now c.in-Some-item_at.item there item) c.value_over.ensures

pub returns-in-Some-by_id : goal.returns-in-Some-by_id
returns-in-Some-by_id c =
    let there : slice_get c.args.calls.now.trigger.now.calls c.args.place ≡ Some c.in-Some.call.now = search rules in
    let item : slice_get c.args.calls.now.trigger.now.call_items c.args.place ≡ Some c.in-Some-item_at.item = search rules in
    let cell : at_id c.args.calls.now.items.now c.in-Some-item_at.item ≡ Some c.in-Some-by_id.cell.now = search rules in
    let called : IsCalled c.args.calls.now.ready.now.conf c.args.calls.now.id c.in-Some-item_at.item = (c.args.calls.now.trigger.now, c.requires.trigger, get_in c.args.calls.now.trigger.now.call_items c.args.place c.in-Some-item_at.item item) in
    let asks = (c.asks_within.ensures c.args.calls.now.ready.now.conf c.args.calls.now.id c.args.place c.in-Some-item_at.item c.args.calls.now.trigger.now c.in-Some.call.now c.requires.trigger there item).1 in
    let period = (c.place_of-pattern.ensures c.args.calls.now.trigger.now c.in-Some.call.now c.requires.trigger there).1 in
    ok_sub c.value_in.result _ _
    (λ v h items sees.
    h c.in-Some-item_at.item (items c.in-Some-item_at.item)
    (seen_of_cell c.args.calls.now.ready.now.conf c.args.calls.now.items.now (still_to_come c.args.calls.now.coming.now) c.args.calls.now.occasion.now items c.args.calls.now.id c.in-Some-item_at.item c.in-Some-by_id.cell.now _ cell
    c.still_to_come-token.ensures.value sees called) (asks period)
    ∙ call_is items c.args.calls.now.occasion c.args.calls.now.ready.now.conf.utc_offset c.args.calls.now.trigger.now c.args.place c.in-Some.call.now c.in-Some-item_at.item there item) c.value_in.ensures

pub value_in-requires-clause-cell : goal.value_in-requires-clause-cell
value_in-requires-clause-cell c =
    let cell : at_id c.args.calls.now.items.now c.in-Some-item_at.item ≡ Some c.in-Some-by_id.cell.now = search rules in
    in_found c.args.calls.now.cache.now c.args.calls.now.items.now c.in-Some-item_at.item c.in-Some-by_id.cell.now cell c.requires.cached.0
