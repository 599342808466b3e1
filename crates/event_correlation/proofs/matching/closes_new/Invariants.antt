use Rattle.std.proofs.Common.{◌≡◌, drop, map}
use Rattle.event_correlation.specs.Conditions.{fits}
use Rattle.event_correlation.specs.Closings.{closes_new}
use Rattle.event_correlation.proofs.matching.closes_new.Given as goal

abbrev pub invariant-loop-rule : goal.invariant-loop-rule
invariant-loop-rule l = closes_new (fits l.groups l.new) (map (λ problem. problem.now) l.old) (drop l.rule-index l.rules) ≡ closes_new (fits l.groups l.new) (map (λ problem. problem.now) l.old) l.rules
