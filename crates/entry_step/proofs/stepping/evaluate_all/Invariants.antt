use Rattle.std.proofs.Common.{◌≡◌, ◌+◌, ℕ, List, length, filter, take}
use Rattle.zbx_types.specs.declared.entries.Stored.{Stored}
use Rattle.entry_step.specs.Each.{Each}
use Rattle.entry_step.specs.Kept.{still_to_come, SeesFor}
use Rattle.entry_step.specs.Records.{evaluated}
use Rattle.entry_step.specs.Changes.{is_asked, put_back, AreTidy, Runs}
use Rattle.entry_step.proofs.stepping.evaluate_all.Given as goal

abbrev pub invariant-loop-id : goal.invariant-loop-id
invariant-loop-id g l = record {
  same : put_back l.problems.items l.draft.taken ≡ put_back l.fn.problems.items l.fn.draft.taken;
  runs : (items : ℕ → List Stored) → Each (SeesFor l.scene.ready.now.conf l.scene.items.now (still_to_come l.scene.coming.now) l.scene.occasion.now items) (filter (is_asked l.scene.ready.now.conf l.scene.coming.now) l.ids) → AreTidy l.scene.ready.now l.scene.occasion.number l.fn.problems.items
      → Runs l.scene.ready.now (evaluated l.scene.ready.now l.scene.occasion items) l.fn.problems.items (filter (is_asked l.scene.ready.now.conf l.scene.coming.now) (take l.id-index l.ids)) l.draft.records l.problems.items;
  counted : l.steps ≡ l.fn.steps + length (filter (is_asked l.scene.ready.now.conf l.scene.coming.now) (take l.id-index l.ids));
}
