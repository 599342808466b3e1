use Rattle.std.proofs.Common.{◌≡◌, ℕ, take, filter}
use Rattle.zbx_types.specs.Ids.{at_id}
use Rattle.conf_index.specs.Order.{order}
use Rattle.conf_index.specs.Index.{listed, is_over_below}
use Rattle.conf_index.proofs.lists.rows_of.Given as goal

abbrev pub invariant-loop-id : goal.invariant-loop-id
invariant-loop-id l = (q : ℕ) → listed l.over.items q ≡ filter (λ id. is_over_below l.conf q (at_id l.conf.triggers id)) (take l.id-index (order l.conf))
