use Rattle.std.proofs.Common.{◌≡◌, ◌↔◌, true, false, refl, subst}
use Rattle.std.specs.Arc.{arc_value}
use Rattle.entry_step.specs.Each.{Each}
use Rattle.entry_step.specs.Exchange.{IsSameItem, IsSameTrigger}
use Rattle.entry_step.proofs.Parting.{all_same, other_items, other_tick}
use Rattle.entry_step.proofs.cells.Cells.same.Goals as goal

pub returns-then-not-same_tick : goal.returns-then-not-same_tick
returns-then-not-same_tick c =
    let k = c.self.inside in
    let p = c.part.inside in
    other_tick k.items.cells.items k.items.memories.items k.problems.items k.tick p.tick (arc_value k.cache) (arc_value p.cache) p.items.items p.triggers.items c.part.invariant.0 c.part.invariant.1 c.args.self.now c.args.part.now c.self.view_is c.part.view_is false c.if-not-same_tick.ensures refl

pub returns-then-not-same_items : goal.returns-then-not-same_items
returns-then-not-same_items c =
    let k = c.self.inside in
    let p = c.part.inside in
    other_items k.items.cells.items k.items.memories.items k.problems.items k.tick p.tick (arc_value k.cache) (arc_value p.cache) p.items.items p.triggers.items c.part.invariant.0 c.part.invariant.1 c.args.self.now c.args.part.now c.self.view_is c.part.view_is false
    (subst (λ rows. (false ≡ true) ↔ Each (IsSameItem k.items.cells.items k.items.memories.items) rows) c.as_slice.ensures.value c.if-not-same_items.ensures) refl

pub returns : goal.returns
returns c =
    let k = c.self.inside in
    let p = c.part.inside in
    all_same k.items.cells.items k.items.memories.items k.problems.items k.tick p.tick (arc_value k.cache) (arc_value p.cache) p.items.items p.triggers.items c.part.invariant.0 c.part.invariant.1 c.args.self.now c.args.part.now c.self.view_is c.part.view_is c.same_triggers.result
    (subst (λ rows. (c.same_triggers.result ≡ true) ↔ Each (IsSameTrigger k.problems.items) rows) c.as_slice-3.ensures.value
    (subst (λ ps. (c.same_triggers.result ≡ true) ↔ Each (IsSameTrigger ps) c.as_slice-3.result.now) c.as_slice-2.ensures.value c.same_triggers.ensures))
    (c.if-not-same_tick.ensures.0 refl) (subst (Each (IsSameItem k.items.cells.items k.items.memories.items)) c.as_slice.ensures.value (c.if-not-same_items.ensures.0 refl))
