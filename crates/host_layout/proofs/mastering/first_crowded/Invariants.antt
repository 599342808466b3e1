use Rattle.std.proofs.Common.{◌≡◌, ◌+◌, ℕ, drop, take, false}
use Rattle.std.specs.Prelude.{find, ◌==◌}
use Rattle.zbx_types.specs.Ids.{ids_from}
use Rattle.host_layout.specs.Masters.{is_crowded, dependents}
use Rattle.host_layout.specs.Counting.{count_in}
use Rattle.host_layout.proofs.mastering.first_crowded.Given as goal

abbrev pub invariant-loop-place : goal.invariant-loop-place
invariant-loop-place l = record {
  found : find (is_crowded l.items) (ids_from (l.place + 1) (drop l.place l.items)) ≡ find (is_crowded l.items) (ids_from 1 l.items);
  counted : (m : ℕ) → (m == 0) ≡ false → count_in l.dependents m ≡ dependents m (take l.place l.items);
}
