use Rattle.std.proofs.Common.{◌≡◌, ◌∙◌, List, map, length, ap, sym, subst, arith}
use Rattle.std.specs.Arc.{arc_value}
use Rattle.value_cache.specs.Cells.{CellView}
use Rattle.prep_steps.specs.declared.memory.StepMemory.{StepMemory}
use Rattle.trigger_state.specs.declared.problems.Open.{Open}
use Rattle.footprint.specs.Rows.{those}
use Rattle.entry_step.specs.Cells.{ItemKey, TriggerKey}
use Rattle.value_cache.specs.Tokens.{CacheId}
use Rattle.preprocess.specs.Draft.{roomless, AreIn}
use Rattle.entry_step.specs.Laws.{any_touches}
use Rattle.entry_step.specs.Parts.{IsPartOf}
use Rattle.entry_step.specs.Represents.{CellsView}
use Rattle.entry_step.specs.Exchange.{roomless_row, item_copies, trigger_copies}
use Rattle.entry_step.proofs.Cached.{held_copies}
use Rattle.entry_step.proofs.Parting.{part_rises, part_is}
use Rattle.entry_step.proofs.cells.Cells.part.Goals as goal

pub invariant_of-result : goal.invariant_of-result
invariant_of-result c =
    let k = c.self.inside in
    let e : map roomless_row c.in_ok-copied_items.field-0.items ≡ item_copies (map roomless k.items.cells.items) k.items.memories.items (those k.items.cells.items (λ id. any_touches c.args.ready.now.conf c.args.entries.now (ItemKey id))) =
    c.in_ok-copied_items.ensures
    ∙ ap (λ ids. item_copies (map roomless c.cells-cells.result.now) c.memories-memories.result.now ids) (c.as_slice-2.ensures ∙ c.in_ok-items.ensures)
    ∙ ap (λ (cs : List CellView). item_copies (map roomless cs) c.memories-memories.result.now (those cs (λ id. any_touches c.args.ready.now.conf c.args.entries.now (ItemKey id)))) c.cells-cells.ensures
    ∙ ap (λ (ms : List (List StepMemory)). item_copies (map roomless k.items.cells.items) ms (those k.items.cells.items (λ id. any_touches c.args.ready.now.conf c.args.entries.now (ItemKey id)))) c.memories-memories.ensures in
    let f : c.in_ok-copied_triggers.field-0.items ≡ trigger_copies k.problems.items (those k.problems.items (λ id. any_touches c.args.ready.now.conf c.args.entries.now (TriggerKey id))) =
    c.in_ok-copied_triggers.ensures
    ∙ ap (λ ids. trigger_copies c.as_slice-3.result.now ids) (c.as_slice-4.ensures ∙ c.in_ok-triggers.ensures)
    ∙ ap (λ (ps : List (List Open)). trigger_copies ps (those c.as_slice.result.now (λ id. any_touches c.args.ready.now.conf c.args.entries.now (TriggerKey id)))) c.as_slice-3.ensures.value
    ∙ ap (λ (ps : List (List Open)). trigger_copies k.problems.items (those ps (λ id. any_touches c.args.ready.now.conf c.args.entries.now (TriggerKey id)))) c.as_slice.ensures.value in
    let rise = part_rises c.args.ready.now.conf c.args.entries.now k.items.cells.items k.items.memories.items k.problems.items c.in_ok-copied_items.field-0.items c.in_ok-copied_triggers.field-0.items e f in
    let own : AreIn (arc_value c.in_ok-cache.cache) c.cells-cells.result.now =
    subst (AreIn (arc_value c.in_ok-cache.cache)) (sym c.cells-cells.ensures) (subst (λ (cache : CacheId). AreIn cache k.items.cells.items) (sym c.in_ok-cache.ensures) c.self.invariant) in
    (rise.0, rise.1, held_copies (arc_value c.in_ok-cache.cache) c.cells-cells.result.now c.memories-memories.result.now c.as_slice-2.result.now c.in_ok-copied_items.field-0.items c.in_ok-copied_items.ensures own)

pub returns-clause-part : goal.returns-clause-part
returns-clause-part c =
    let k = c.self.inside in
    let e : map roomless_row c.in_ok-copied_items.field-0.items ≡ item_copies (map roomless k.items.cells.items) k.items.memories.items (those k.items.cells.items (λ id. any_touches c.args.ready.now.conf c.args.entries.now (ItemKey id))) =
    c.in_ok-copied_items.ensures
    ∙ ap (λ ids. item_copies (map roomless c.cells-cells.result.now) c.memories-memories.result.now ids) (c.as_slice-2.ensures ∙ c.in_ok-items.ensures)
    ∙ ap (λ (cs : List CellView). item_copies (map roomless cs) c.memories-memories.result.now (those cs (λ id. any_touches c.args.ready.now.conf c.args.entries.now (ItemKey id)))) c.cells-cells.ensures
    ∙ ap (λ (ms : List (List StepMemory)). item_copies (map roomless k.items.cells.items) ms (those k.items.cells.items (λ id. any_touches c.args.ready.now.conf c.args.entries.now (ItemKey id)))) c.memories-memories.ensures in
    let f : c.in_ok-copied_triggers.field-0.items ≡ trigger_copies k.problems.items (those k.problems.items (λ id. any_touches c.args.ready.now.conf c.args.entries.now (TriggerKey id))) =
    c.in_ok-copied_triggers.ensures
    ∙ ap (λ ids. trigger_copies c.as_slice-3.result.now ids) (c.as_slice-4.ensures ∙ c.in_ok-triggers.ensures)
    ∙ ap (λ (ps : List (List Open)). trigger_copies ps (those c.as_slice.result.now (λ id. any_touches c.args.ready.now.conf c.args.entries.now (TriggerKey id)))) c.as_slice-3.ensures.value
    ∙ ap (λ (ps : List (List Open)). trigger_copies k.problems.items (those ps (λ id. any_touches c.args.ready.now.conf c.args.entries.now (TriggerKey id)))) c.as_slice.ensures.value in
    let a = ap length c.cells-cells.ensures in
    let b = ap length c.memories-memories.ensures in
    let size : length k.items.cells.items ≡ length k.items.memories.items = omega arith in
    subst (λ (held : CellsView). IsPartOf c.args.ready.now.conf c.args.entries.now held (record { items = c.in_ok-copied_items.field-0.items; triggers = c.in_ok-copied_triggers.field-0.items; tick = k.tick; cache = arc_value c.in_ok-cache.cache })) c.self.view_is
    (part_is c.args.ready.now.conf c.args.entries.now k.items.cells.items k.items.memories.items k.problems.items c.in_ok-copied_items.field-0.items c.in_ok-copied_triggers.field-0.items e f k.tick (arc_value k.cache) (arc_value c.in_ok-cache.cache) size)
