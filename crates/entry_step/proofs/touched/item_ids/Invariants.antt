use Rattle.std.proofs.Common.{◌≡◌, ◌||◌, ℕ, true, drop}
use Rattle.zbx_types.specs.Masters.{has_id}
use Rattle.footprint.specs.Rows.{is_one}
use Rattle.entry_step.specs.Cells.{ItemKey}
use Rattle.entry_step.specs.Laws.{any_touches}
use Rattle.entry_step.proofs.touched.item_ids.Given as goal

abbrev pub invariant-loop-one : goal.invariant-loop-one
invariant-loop-one g l =
    (id : ℕ) → is_one l.all id ≡ true
    → (has_id l.found.items id || any_touches l.ready.conf (drop l.one-index l.entries) (ItemKey id)) ≡ any_touches l.ready.conf l.entries (ItemKey id)
