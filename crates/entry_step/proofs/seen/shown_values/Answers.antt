use Rattle.std.proofs.Common.{◌≡◌, ◌++◌, ◌+◌, drop, ◌∙◌, ◌<◌, ◌≤◌, ◌≢◌, ℕ, List, length, get_or, ap, sym, subst}
use Rattle.value_cache.specs.Keeps.{keep_of}
use Rattle.value_cache.specs.Cells.{IsWithin}
use Rattle.zbx_types.specs.declared.calls.Range.TheVariants.{Count}
use Rattle.entry_step.specs.Kept.{IsCalled}
use Rattle.entry_step.proofs.Showing.{items_in, shown_over, called_at, within_at, shown_skip, shown_push, shown_all}
use Rattle.entry_step.proofs.seen.shown_values.Goals.{then-item-ne0+in_ok-latest_of+in_ok-push, else-item-ne0}
use Rattle.entry_step.proofs.seen.shown_values.Goals as goal

pub loop-item-preserved : goal.loop-item-preserved
loop-item-preserved c = λ items sees.
    let trigger = c.args.calls.now.trigger.now in
    let now = c.args.calls.now.occasion.now in
    let ids : List ℕ = items_in trigger in
    let k : ℕ = c.loop-item.item-index in
    let item : ℕ = get_or c.items_of-item-items.result.now k 0 in
    let is : item ≡ get_or ids k 0 = ap (λ (xs : List ℕ). get_or xs k 0) c.items_of-item-items.ensures in
    let within : k < length ids = subst (λ (xs : List ℕ). k < length xs) c.items_of-item-items.ensures c.loop-item-test.true in
    let called : IsCalled c.args.calls.now.ready.now.conf c.args.calls.now.id item = called_at c.args.calls.now.ready.now.conf c.args.calls.now.id k item trigger c.requires.trigger within is in
    let keeps : IsWithin (keep_of c.args.calls.now.ready.now.conf item) (Count 1) 0 = within_at c.args.calls.now.ready.now.conf c.args.calls.now.id k item trigger c.asks_within.ensures c.requires.trigger within is in
    elim c.if-item-ne0.branch [
      | then-item-ne0+in_ok-latest_of+in_ok-push w ↦
          (let some : item ≢ 0 = w.if-item-ne0.true in
          shown_push items now ids k item c.loop-item.made c.if-item-ne0.made (shown_over items now ids) _ within is some (w.made-is ∙ w.in_ok-push.ensures.ok) (w.in_ok-latest_of.ensures items sees called keeps) (c.loop-item.invariant items sees))
      | else-item-ne0 w ↦
          (let none : item ≡ 0 = w.if-item-ne0.false in
          subst (λ made. made ++ shown_over items now (drop (k + 1) ids) ≡ shown_over items now ids) (sym w.made-is) (shown_skip items now ids k item c.loop-item.made (shown_over items now ids) within is none (c.loop-item.invariant items sees)))
    ]

pub returns : goal.returns
returns c = λ items sees.
    let past : length (items_in c.args.calls.now.trigger.now) ≤ c.loop-item.item-index = subst (λ (xs : List ℕ). length xs ≤ c.loop-item.item-index) c.items_of-item-items.ensures c.loop-item-test.false in
    shown_all items c.args.calls.now.occasion.now c.args.calls.now.trigger.now c.loop-item.item-index c.loop-item.made past (c.loop-item.invariant items sees)
