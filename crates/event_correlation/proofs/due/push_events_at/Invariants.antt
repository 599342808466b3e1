use Rattle.std.proofs.Common.{◌≡◌, ◌++◌, drop}
use Rattle.event_correlation.specs.Due.{events_at}
use Rattle.event_correlation.proofs.due.push_events_at.Given as goal

abbrev pub invariant-loop-one : goal.invariant-loop-one
invariant-loop-one l = l.closed ++ events_at l.place (drop l.one-index l.due) ≡ l.fn.closed ++ events_at l.place l.due
