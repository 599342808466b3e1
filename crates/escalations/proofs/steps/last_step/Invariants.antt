use Rattle.std.proofs.Common.{◌≡◌, drop}
use Rattle.std.specs.Prelude.{filter_map}
use Rattle.std.specs.List.{reduce}
use Rattle.escalations.specs.Steps.{ran_of, later}
use Rattle.escalations.proofs.Gathered.{gathered}
use Rattle.escalations.proofs.steps.last_step.Given as goal

abbrev pub invariant-loop-rec : goal.invariant-loop-rec
invariant-loop-rec l = gathered later l.last (filter_map (ran_of l.event l.action) (drop l.rec-index l.steps)) ≡ reduce later (filter_map (ran_of l.event l.action) l.steps)
