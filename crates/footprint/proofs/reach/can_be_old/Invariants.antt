use Rattle.std.proofs.Common.{◌≡◌, drop}
use Rattle.std.specs.List.{list_all}
use Rattle.zbx_types.specs.Reach.{has_name, old_name}
use Rattle.footprint.proofs.reach.can_be_old.Given as goal

abbrev pub invariant-loop-condition : goal.invariant-loop-condition
invariant-loop-condition l = list_all (λ condition. has_name l.tags (old_name condition)) (drop l.condition-index l.conditions) ≡ list_all (λ condition. has_name l.tags (old_name condition)) l.conditions
