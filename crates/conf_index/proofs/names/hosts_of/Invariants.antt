use Rattle.std.proofs.Common.{◌≡◌, ℕ, List, take}
use Rattle.std.specs.HashMap.{get_by_text}
use Rattle.std.specs.Str.{bytes_eq}
use Rattle.conf_index.proofs.Naming.{first_id}
use Rattle.conf_index.proofs.names.hosts_of.Given as goal

abbrev pub invariant-loop-place : goal.invariant-loop-place
invariant-loop-place l = (q : List ℕ) → get_by_text l.ids q ≡ first_id (λ h. bytes_eq h.name q) (take l.place l.conf.hosts)
