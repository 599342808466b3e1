use Rattle.std.proofs.Common.{◌≡◌, ◌++◌, map, drop}
use Rattle.preprocess.specs.Carry.{old_item}
use Rattle.preprocess.proofs.naming.old_items.Given as goal

abbrev pub invariant-loop-item : goal.invariant-loop-item
invariant-loop-item l = l.ids.items ++ map (old_item l.old l.new) (drop l.item-index l.new.items) ≡ map (old_item l.old l.new) l.new.items
