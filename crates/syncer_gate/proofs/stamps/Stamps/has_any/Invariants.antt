use Rattle.std.proofs.Common.{◌≡◌, drop}
use Rattle.std.specs.List.{list_any}
use Rattle.syncer_gate.specs.Stamped.{is_stamped}
use Rattle.syncer_gate.proofs.stamps.Stamps.has_any.Given as goal

abbrev pub invariant-loop-id : goal.invariant-loop-id
invariant-loop-id l = list_any (is_stamped l.self) (drop l.id-index l.ids) ≡ list_any (is_stamped l.self) l.ids
