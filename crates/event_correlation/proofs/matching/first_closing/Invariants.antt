use Rattle.std.proofs.Common.{◌≡◌, drop}
use Rattle.std.specs.List.{position_from}
use Rattle.event_correlation.specs.Conditions.{fits}
use Rattle.event_correlation.specs.Closings.{closes_old}
use Rattle.event_correlation.proofs.matching.first_closing.Given as goal

abbrev pub invariant-loop-place : goal.invariant-loop-place
invariant-loop-place l = position_from (closes_old (fits l.groups l.new) l.old) l.place (drop l.place l.rules) ≡ position_from (closes_old (fits l.groups l.new) l.old) 0 l.rules
