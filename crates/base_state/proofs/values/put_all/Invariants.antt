use Rattle.preprocess.specs.Draft.{AreIn}
use Rattle.base_state.specs.Restoring.{AreRestored}
use Rattle.base_state.proofs.values.put_all.Given as goal

abbrev pub invariant-loop-place : goal.invariant-loop-place
invariant-loop-place l = record {
  restored : AreRestored l.conf l.base l.place l.items;
  of : AreIn l.cache l.fn.items.cells.items → AreIn l.cache l.items.cells.items;
}
