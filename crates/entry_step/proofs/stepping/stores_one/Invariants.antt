use Rattle.std.proofs.Common.{◌≡◌, drop, is_some}
use Rattle.std.specs.List.{list_any}
use Rattle.preprocess.specs.Draft.{stored_at}
use Rattle.entry_step.proofs.stepping.stores_one.Given as goal

abbrev pub invariant-loop-item : goal.invariant-loop-item
invariant-loop-item l = list_any (λ item. is_some (stored_at l.draft.visits item)) (drop l.item-index l.items) ≡ list_any (λ item. is_some (stored_at l.draft.visits item)) l.items
