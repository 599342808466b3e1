use Rattle.std.proofs.Common.{◌≡◌, ◌∙◌, true, List, map, ap, sym, subst}
use Rattle.std.specs.Arc.{arc_value}
use Rattle.footprint.specs.Rows.{rises}
use Rattle.value_cache.specs.Tokens.{CacheId}
use Rattle.entry_step.specs.Parts.{PartView, AreHeldIn}
use Rattle.entry_step.specs.declared.parts.TriggerRow.{TriggerRow}
use Rattle.entry_step.proofs.Exchanging.{trigger_id}
use Rattle.entry_step.proofs.Cached.{held_again}
use Rattle.entry_step.specs.Exchange.{roomless_row, IsCopy}
use Rattle.entry_step.proofs.Parting.{copy_is, copy_rises}
use Rattle.entry_step.proofs.parts.Part.copy.Goals as goal

pub returns-clause-copy : goal.returns-clause-copy
returns-clause-copy c =
    let p = c.self.inside in
    subst (λ (part : PartView). IsCopy (record { items = c.in_ok-items_again.field-0.items; triggers = c.in_ok-triggers_again.field-0.items; tick = p.tick; cache = arc_value c.in_ok-cache.cache }) part) c.self.view_is
    (copy_is p.items.items c.in_ok-items_again.field-0.items p.triggers.items c.in_ok-triggers_again.field-0.items p.tick (arc_value c.in_ok-cache.cache) (arc_value p.cache) (c.in_ok-items_again.ensures ∙ ap (map roomless_row) c.as_slice.ensures.value) (c.in_ok-triggers_again.ensures ∙ c.as_slice-2.ensures.value))

pub invariant_of-result : goal.invariant_of-result
invariant_of-result c =
    let p = c.self.inside in
    let e = c.in_ok-items_again.ensures ∙ ap (map roomless_row) c.as_slice.ensures.value in
    let f = c.in_ok-triggers_again.ensures ∙ c.as_slice-2.ensures.value in (
      copy_rises p.items.items c.in_ok-items_again.field-0.items e c.self.invariant.0,
      subst (λ (rows : List TriggerRow). rises (map trigger_id rows) ≡ true) (sym f) c.self.invariant.1,
      held_again (arc_value c.in_ok-cache.cache) p.items.items c.in_ok-items_again.field-0.items e (subst (λ (cache : CacheId). AreHeldIn cache p.items.items) (sym c.in_ok-cache.ensures) c.self.invariant.2),
    )
