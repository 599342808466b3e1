use Rattle.std.proofs.Common.{◌≡◌, ◌==◌, ◌&&◌, ℕ, List, take}
use Rattle.std.specs.Str.{bytes_eq}
use Rattle.conf_index.specs.Index.{id_at}
use Rattle.conf_index.proofs.Naming.{first_id}
use Rattle.conf_index.proofs.names.keys_of.Given as goal

abbrev pub invariant-loop-place : goal.invariant-loop-place
invariant-loop-place l = (h : ℕ) (q : List ℕ) → id_at l.keys.items h q ≡ first_id (λ i. (i.host == h) && bytes_eq i.key q) (take l.place l.conf.items)
