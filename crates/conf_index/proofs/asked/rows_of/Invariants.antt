use Rattle.std.proofs.Common.{◌≡◌, All, map, take}
use Rattle.conf_index.specs.Asked.{places_of, IsAsked}
use Rattle.conf_index.proofs.asked.rows_of.Given as goal

abbrev pub invariant-loop-trigger : goal.invariant-loop-trigger
invariant-loop-trigger l = (l.rows.items ≡ map (places_of l.patterns) (take l.trigger-index l.triggers)) × All (λ trigger. All (IsAsked l.patterns) trigger.calls) (take l.trigger-index l.triggers)
