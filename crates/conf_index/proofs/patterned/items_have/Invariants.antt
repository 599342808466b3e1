use Rattle.std.proofs.Common.{take}
use Rattle.std.specs.Prelude.{All}
use Rattle.zbx_types.specs.declared.items.Item.{Item}
use Rattle.preprocess.specs.Ways.{HavePatterns}
use Rattle.conf_index.proofs.patterned.items_have.Given as goal

abbrev pub invariant-loop-item : goal.invariant-loop-item
invariant-loop-item l = All (λ (item : Item). HavePatterns l.texts item.steps) (take l.item-index l.items)
