use Rattle.std.proofs.Common.{◌≡◌, ◌++◌, drop, map}
use Rattle.event_correlation.specs.Conditions.{fits}
use Rattle.event_correlation.specs.Due.{due_of}
use Rattle.event_correlation.proofs.due.due_of.Given as goal

abbrev pub invariant-loop-problem : goal.invariant-loop-problem
invariant-loop-problem l = l.due.items ++ due_of (fits l.groups l.new) l.rules (map (λ problem. problem.now) (drop l.problem-index l.old)) ≡ due_of (fits l.groups l.new) l.rules (map (λ problem. problem.now) l.old)
