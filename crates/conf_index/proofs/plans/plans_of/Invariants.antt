use Rattle.std.proofs.Common.{map, take}
use Rattle.conf_index.specs.Plans.{plan_of}
use Rattle.conf_index.proofs.Packing.{IsPacked}
use Rattle.conf_index.proofs.plans.plans_of.Given as goal

abbrev pub invariant-loop-trigger : goal.invariant-loop-trigger
invariant-loop-trigger l = IsPacked l.made.starts l.made.items (take l.trigger-index (map plan_of l.triggers))
