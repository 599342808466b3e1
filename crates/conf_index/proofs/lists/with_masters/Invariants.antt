use Rattle.std.proofs.Common.{◌≡◌, ◌++◌, drop}
use Rattle.conf_index.specs.Index.{with_masters}
use Rattle.conf_index.proofs.lists.with_masters.Given as goal

abbrev pub invariant-loop-item : goal.invariant-loop-item
invariant-loop-item l = l.ids ++ with_masters l.conf (drop l.item-index l.items) ≡ with_masters l.conf l.items
