use Rattle.std.proofs.Common.{◌≡◌, ◌+◌, drop}
use Rattle.std.specs.Prelude.{find}
use Rattle.zbx_types.specs.Ids.{ids_from}
use Rattle.host_layout.specs.Masters.{is_too_deep}
use Rattle.host_layout.proofs.mastering.first_too_deep.Given as goal

abbrev pub invariant-loop-place : goal.invariant-loop-place
invariant-loop-place l = find (is_too_deep l.items) (ids_from (l.place + 1) (drop l.place l.items)) ≡ find (is_too_deep l.items) (ids_from 1 l.items)
