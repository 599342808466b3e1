use Rattle.std.proofs.Common.{◌≡◌, ℕ, List, drop, map}
use Rattle.std.specs.List.{position_from}
use Rattle.std.specs.Str.{bytes_eq}
use Rattle.std.specs.Option.{option_or}
use Rattle.host_layout.specs.Firsts.{place_in}
use Rattle.host_layout.specs.Sources.{placed_of}
use Rattle.host_layout.proofs.owners.source_names.Given as goal

abbrev pub invariant-loop-place : goal.invariant-loop-place
invariant-loop-place l =
    (sought : List ℕ) → option_or (place_in l.names sought) (position_from (λ s. bytes_eq s.body.name sought) l.place (map placed_of (drop l.place l.sources)))
    ≡ position_from (λ s. bytes_eq s.body.name sought) 0 (map placed_of l.sources)
