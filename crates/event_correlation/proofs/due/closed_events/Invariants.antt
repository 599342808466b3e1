use Rattle.std.proofs.Common.{◌≡◌, ◌++◌, map}
use Rattle.event_correlation.specs.Conditions.{fits}
use Rattle.event_correlation.proofs.DueLemmas.{rest_closed}
use Rattle.event_correlation.proofs.due.closed_events.Given as goal

abbrev pub invariant-loop-place : goal.invariant-loop-place
invariant-loop-place l = l.closed ++ rest_closed (fits l.groups l.new) (map (λ problem. problem.now) l.old) l.place l.rules ≡ rest_closed (fits l.groups l.new) (map (λ problem. problem.now) l.old) 0 l.rules
