use Rattle.std.proofs.Common.{◌≡◌, ◌++◌, ◌∷◌, [], map, drop}
use Rattle.zbx_types.specs.declared.triggers.Trigger.{Trigger}
use Rattle.footprint.proofs.tables.called.Given as goal

abbrev pub invariant-loop-trigger : goal.invariant-loop-trigger
invariant-loop-trigger l = l.made.items ++ map (λ (trigger : Trigger). trigger.call_items) (drop l.trigger-index l.triggers) ≡ [] ∷ map (λ (trigger : Trigger). trigger.call_items) l.triggers
