use Rattle.std.proofs.Common.{◌≡◌, filter, take}
use Rattle.zbx_types.specs.Ids.{at_id}
use Rattle.conf_index.specs.Order.{order}
use Rattle.conf_index.specs.Timed.{is_timed_trigger}
use Rattle.conf_index.proofs.timed.timed_triggers.Given as goal

abbrev pub invariant-loop-id : goal.invariant-loop-id
invariant-loop-id l = l.ids ≡ filter (λ id. is_timed_trigger (at_id l.conf.triggers id)) (take l.id-index (order l.conf))
