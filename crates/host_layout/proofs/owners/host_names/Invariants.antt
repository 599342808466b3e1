use Rattle.std.proofs.Common.{◌≡◌, ℕ, List, drop}
use Rattle.std.specs.List.{position_from}
use Rattle.std.specs.Str.{bytes_eq}
use Rattle.std.specs.Option.{option_or}
use Rattle.host_layout.specs.Firsts.{place_in}
use Rattle.host_layout.proofs.owners.host_names.Given as goal

abbrev pub invariant-loop-place : goal.invariant-loop-place
invariant-loop-place l =
    (sought : List ℕ) → option_or (place_in l.names sought) (position_from (λ h. bytes_eq h.name sought) l.place (drop l.place l.hosts)) ≡ position_from (λ h. bytes_eq h.name sought) 0 l.hosts
