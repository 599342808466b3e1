use Rattle.std.proofs.Common.{◌≡◌, ◌∙◌, true, List, map, length, ap, sym, subst, arith}
use Rattle.std.proofs.lemmas.List.{with_items_is}
use Rattle.std.specs.Vec.{with_items}
use Rattle.std.specs.Arc.{arc_value}
use Rattle.value_cache.specs.Tokens.{CacheId}
use Rattle.preprocess.specs.Draft.{AreIn}
use Rattle.footprint.specs.Rows.{rises}
use Rattle.entry_step.specs.Parts.{PartView, AreHeldIn}
use Rattle.entry_step.specs.Represents.{CellsView}
use Rattle.entry_step.specs.Exchange.{put_all, items_taken, triggers_taken}
use Rattle.entry_step.specs.declared.parts.ItemRow.{ItemRow}
use Rattle.entry_step.specs.declared.parts.TriggerRow.{TriggerRow}
use Rattle.entry_step.proofs.Exchanging.{item_id, item_cell, item_marks, trigger_id, trigger_problems}
use Rattle.entry_step.proofs.Cached.{put_in, taken_in}
use Rattle.entry_step.proofs.Parting.{taken_rises, others_rise, replaced_by, taken_by, items_taken_size, triggers_taken_size}
use Rattle.entry_step.proofs.cells.Cells.exchange.Goals as goal

pub invariant_of-part : goal.invariant_of-part
invariant_of-part c =
    let k = c.self.inside in
    let q = c.part.inside in
    let one : arc_value q.cache ≡ arc_value k.cache = ap (λ (view : PartView). view.cache) c.part.view_is ∙ c.requires ∙ sym (ap (λ (view : CellsView). view.cache) c.self.view_is) in
    let e = c.exchange_items.ensures.cells ∙ ap (put_all item_id item_cell k.items.cells.items) c.as_mut_slice.ensures.value in
    let m = c.exchange_items.ensures.memories ∙ ap (put_all item_id item_marks k.items.memories.items) c.as_mut_slice.ensures.value in
    let p = c.exchange_triggers.ensures.problems ∙ ap (put_all trigger_id trigger_problems k.problems.items) c.as_mut_slice-2.ensures.value in
    let t : c.exchange_items.new.rows ≡ items_taken k.items.cells.items k.items.memories.items q.items.items = c.exchange_items.ensures.rows ∙ ap (items_taken k.items.cells.items k.items.memories.items) c.as_mut_slice.ensures.value in
    let u : c.exchange_triggers.new.rows ≡ triggers_taken k.problems.items q.triggers.items = c.exchange_triggers.ensures.rows ∙ ap (triggers_taken k.problems.items) c.as_mut_slice-2.ensures.value in
    let a : length c.exchange_items.new.rows ≡ length q.items.items = ap length t ∙ items_taken_size k.items.cells.items k.items.memories.items q.items.items in
    let b : length c.exchange_triggers.new.rows ≡ length q.triggers.items = ap length u ∙ triggers_taken_size k.problems.items q.triggers.items in
    let left : (with_items q.items c.exchange_items.new.rows).items ≡ c.exchange_items.new.rows = with_items_is q.items c.exchange_items.new.rows (omega (arith, q.items.ok.0)) in
    let rest : (with_items q.triggers c.exchange_triggers.new.rows).items ≡ c.exchange_triggers.new.rows = with_items_is q.triggers c.exchange_triggers.new.rows (omega (arith, q.triggers.ok.0)) in (
      subst (λ (rows : List ItemRow). rises (map item_id rows) ≡ true) (sym left)
          (taken_rises k.items.cells.items c.exchange_items.new.items.cells.items k.items.memories.items c.exchange_items.new.items.memories.items k.problems.items c.exchange_triggers.new.problems.items k.tick q.tick (arc_value k.cache) (arc_value q.cache) q.items.items c.exchange_items.new.rows q.triggers.items c.exchange_triggers.new.rows
          c.part.invariant.0 c.part.invariant.1 e m p t u),
      subst (λ (rows : List TriggerRow). rises (map trigger_id rows) ≡ true) (sym rest)
          (others_rise k.items.cells.items c.exchange_items.new.items.cells.items k.items.memories.items c.exchange_items.new.items.memories.items k.problems.items c.exchange_triggers.new.problems.items k.tick q.tick (arc_value k.cache) (arc_value q.cache) q.items.items c.exchange_items.new.rows q.triggers.items c.exchange_triggers.new.rows
          c.part.invariant.0 c.part.invariant.1 e m p t u),
      subst (AreHeldIn (arc_value q.cache)) (sym left)
          (subst (AreHeldIn (arc_value q.cache)) (sym t) (taken_in (arc_value q.cache) k.items.cells.items k.items.memories.items q.items.items (subst (λ (cache : CacheId). AreIn cache k.items.cells.items) (sym one) c.self.invariant) c.part.invariant.2)),
    )

pub invariant_of-self : goal.invariant_of-self
invariant_of-self c =
    let k = c.self.inside in
    let q = c.part.inside in
    let one : arc_value q.cache ≡ arc_value k.cache = ap (λ (view : PartView). view.cache) c.part.view_is ∙ c.requires ∙ sym (ap (λ (view : CellsView). view.cache) c.self.view_is) in
    let e = c.exchange_items.ensures.cells ∙ ap (put_all item_id item_cell k.items.cells.items) c.as_mut_slice.ensures.value in
    subst (AreIn (arc_value k.cache)) (sym e) (put_in (arc_value k.cache) k.items.cells.items q.items.items c.self.invariant (subst (λ (cache : CacheId). AreHeldIn cache q.items.items) one c.part.invariant.2))

pub returns-clause-replaced : goal.returns-clause-replaced
returns-clause-replaced c =
    let k = c.self.inside in
    let q = c.part.inside in
    let e = c.exchange_items.ensures.cells ∙ ap (put_all item_id item_cell k.items.cells.items) c.as_mut_slice.ensures.value in
    let m = c.exchange_items.ensures.memories ∙ ap (put_all item_id item_marks k.items.memories.items) c.as_mut_slice.ensures.value in
    let p = c.exchange_triggers.ensures.problems ∙ ap (put_all trigger_id trigger_problems k.problems.items) c.as_mut_slice-2.ensures.value in
    let t = c.exchange_items.ensures.rows ∙ ap (items_taken k.items.cells.items k.items.memories.items) c.as_mut_slice.ensures.value in
    let u = c.exchange_triggers.ensures.rows ∙ ap (triggers_taken k.problems.items) c.as_mut_slice-2.ensures.value in
    replaced_by k.items.cells.items c.exchange_items.new.items.cells.items k.items.memories.items c.exchange_items.new.items.memories.items k.problems.items c.exchange_triggers.new.problems.items k.tick q.tick (arc_value k.cache) (arc_value q.cache) q.items.items c.exchange_items.new.rows q.triggers.items c.exchange_triggers.new.rows
    c.part.invariant.0 c.part.invariant.1 e m p t u c.args.self.now c.args.part.now c.self.view_is c.part.view_is c.swap.new.x c.swap.ensures.x_after

pub returns-clause-taken : goal.returns-clause-taken
returns-clause-taken c =
    let k = c.self.inside in
    let q = c.part.inside in
    let e = c.exchange_items.ensures.cells ∙ ap (put_all item_id item_cell k.items.cells.items) c.as_mut_slice.ensures.value in
    let m = c.exchange_items.ensures.memories ∙ ap (put_all item_id item_marks k.items.memories.items) c.as_mut_slice.ensures.value in
    let p = c.exchange_triggers.ensures.problems ∙ ap (put_all trigger_id trigger_problems k.problems.items) c.as_mut_slice-2.ensures.value in
    let t : c.exchange_items.new.rows ≡ items_taken k.items.cells.items k.items.memories.items q.items.items = c.exchange_items.ensures.rows ∙ ap (items_taken k.items.cells.items k.items.memories.items) c.as_mut_slice.ensures.value in
    let u : c.exchange_triggers.new.rows ≡ triggers_taken k.problems.items q.triggers.items = c.exchange_triggers.ensures.rows ∙ ap (triggers_taken k.problems.items) c.as_mut_slice-2.ensures.value in
    let a : length c.exchange_items.new.rows ≡ length q.items.items = ap length t ∙ items_taken_size k.items.cells.items k.items.memories.items q.items.items in
    let b : length c.exchange_triggers.new.rows ≡ length q.triggers.items = ap length u ∙ triggers_taken_size k.problems.items q.triggers.items in
    taken_by k.items.cells.items c.exchange_items.new.items.cells.items k.items.memories.items c.exchange_items.new.items.memories.items k.problems.items c.exchange_triggers.new.problems.items k.tick q.tick (arc_value k.cache) (arc_value q.cache) q.items.items c.exchange_items.new.rows q.triggers.items c.exchange_triggers.new.rows
    c.part.invariant.0 c.part.invariant.1 e m p t u c.args.self.now c.args.part.now c.self.view_is c.part.view_is
    (with_items q.items c.exchange_items.new.rows).items (with_items q.triggers c.exchange_triggers.new.rows).items c.swap.new.y (with_items_is q.items c.exchange_items.new.rows (omega (arith, q.items.ok.0)))
    (with_items_is q.triggers c.exchange_triggers.new.rows (omega (arith, q.triggers.ok.0))) c.swap.ensures.y_after
