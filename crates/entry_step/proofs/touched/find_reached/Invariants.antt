use Rattle.std.proofs.Common.{◌≡◌, ◌||◌, ℕ, drop}
use Rattle.std.specs.List.{list_any}
use Rattle.zbx_types.specs.Masters.{has_id}
use Rattle.footprint.specs.Feet.{is_reached}
use Rattle.entry_step.proofs.touched.find_reached.Given as goal

abbrev pub invariant-loop-rule : goal.invariant-loop-rule
invariant-loop-rule l =
    (id : ℕ)
    → (has_id l.found.items id || list_any (λ rule. is_reached l.ready.conf rule id) (drop l.rule-index l.rules))
    ≡ (has_id l.fn.found.items id || list_any (λ rule. is_reached l.ready.conf rule id) l.rules)
