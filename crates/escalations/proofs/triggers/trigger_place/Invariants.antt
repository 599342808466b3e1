use Rattle.std.proofs.Common.{◌≡◌, drop}
use Rattle.std.specs.List.{position_from}
use Rattle.escalations.specs.Triggers.{is_trigger_of}
use Rattle.escalations.proofs.triggers.trigger_place.Given as goal

abbrev pub invariant-loop-place : goal.invariant-loop-place
invariant-loop-place l = position_from (is_trigger_of l.conf l.problem) l.place (drop l.place l.triggers) ≡ position_from (is_trigger_of l.conf l.problem) 0 l.triggers
