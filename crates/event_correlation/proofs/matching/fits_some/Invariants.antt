use Rattle.std.proofs.Common.{◌≡◌, drop, map}
use Rattle.std.specs.List.{list_any}
use Rattle.event_correlation.specs.Conditions.{fits}
use Rattle.event_correlation.proofs.matching.fits_some.Given as goal

abbrev pub invariant-loop-problem : goal.invariant-loop-problem
invariant-loop-problem l = list_any (fits l.groups l.new l.rule) (map (λ problem. problem.now) (drop l.problem-index l.old)) ≡ list_any (fits l.groups l.new l.rule) (map (λ problem. problem.now) l.old)
