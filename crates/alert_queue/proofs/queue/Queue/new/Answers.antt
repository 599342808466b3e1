use Rattle.std.proofs.Common.{◌≡◌, ℕ, List, sym, subst}
use Rattle.alert_queue.specs.Lanes.{Laned}
use Rattle.alert_queue.specs.Queues.{AreFiled, IsKept}
use Rattle.alert_queue.specs.Law.{AreFresh}
use Rattle.alert_queue.specs.New.{IsNew}
use Rattle.alert_queue.proofs.Fillings.{all_there, none_left, keys_none, keys_too, kept_new, is_new, is_fresh}
use Rattle.alert_queue.proofs.queue.Queue.new.Goals as goal

pub fill-requires-clause-there : goal.fill-requires-clause-there
fill-requires-clause-there c = all_there c.args.kinds.now c.in_ok-lanes.lanes.items c.args.homes.now c.requires.there c.in_ok-lanes.ensures

pub fill-requires-clause-empty : goal.fill-requires-clause-empty
fill-requires-clause-empty c = none_left c.args.kinds.now c.in_ok-lanes.lanes.items c.in_ok-lanes.ensures

pub file_all-requires-clause-ready : goal.file_all-requires-clause-ready
file_all-requires-clause-ready c = keys_none _ c.in_ok-ready.ready c.in_ok-ready.ensures

pub file_all-requires-clause-waiting : goal.file_all-requires-clause-waiting
file_all-requires-clause-waiting c = keys_too _ c.in_ok-ready.ready c.in_ok-waiting.waiting c.in_ok-ready.ensures c.in_ok-waiting.ensures

pub invariant_of-result : goal.invariant_of-result
invariant_of-result c =
    let ready = c.file_all.new.ready in
    let waiting = c.file_all.new.waiting in
    subst (λ (h : List ℕ). IsKept c.fill.new.lanes.items h ready waiting 0 c.in_ok-left.left) (sym c.in_ok-homes.ensures.items)
    (kept_new c.args.homes.now c.args.marked.now c.args.kinds.now c.in_ok-lanes.lanes.items c.fill.new.lanes.items c.in_ok-lanes.ensures c.in_ok-left.ensures.filled
    ready waiting c.in_ok-left.left (subst (λ (l : List Laned). AreFiled 0 l ready waiting) c.as_slice.ensures.value c.file_all.ensures) c.in_ok-left.ensures.left)

pub returns-clause-is_new : goal.returns-clause-is_new
returns-clause-is_new c =
    subst (λ (h : List ℕ). IsNew c.args.homes.now c.args.marked.now c.args.kinds.now (record { lanes = c.fill.new.lanes.items; homes = h; now = 0 })) (sym c.in_ok-homes.ensures.items)
    (is_new c.args.homes.now c.args.marked.now c.args.kinds.now c.in_ok-lanes.lanes.items c.fill.new.lanes.items c.in_ok-lanes.ensures c.in_ok-left.ensures.filled)

pub returns-clause-fresh : goal.returns-clause-fresh
returns-clause-fresh c =
    subst (λ (h : List ℕ). AreFresh (record { lanes = c.fill.new.lanes.items; homes = h; now = 0 })) (sym c.in_ok-homes.ensures.items)
    (is_fresh c.args.homes.now c.args.marked.now c.args.kinds.now c.in_ok-lanes.lanes.items c.fill.new.lanes.items c.in_ok-lanes.ensures c.in_ok-left.ensures.filled c.requires.limited)
