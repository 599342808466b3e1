use Rattle.std.proofs.Common.{◌≡◌, ◌||◌, ℕ, take}
use Rattle.zbx_types.specs.Masters.{has_id}
use Rattle.syncer_gate.specs.Stamped.{is_stamped}
use Rattle.syncer_gate.proofs.stamps.Stamps.set_all.Given as goal

abbrev pub invariant-loop-id : goal.invariant-loop-id
invariant-loop-id l = (x : ℕ) → is_stamped l.self x ≡ (is_stamped l.fn.self x || has_id (take l.id-index l.ids) x)
