use Rattle.std.proofs.Common.{◌≡◌, ◌≤◌, ℕ, List, length}
use Rattle.conf_index.specs.Index.{id_at}
use Rattle.conf_index.proofs.names.reach.Given as goal

abbrev pub invariant-loop-host : goal.invariant-loop-host
invariant-loop-host l = record {
  size : l._host ≤ length l.keys.items;
  same : (h : ℕ) (q : List ℕ) → id_at l.keys.items h q ≡ id_at l.fn.keys.items h q;
}
