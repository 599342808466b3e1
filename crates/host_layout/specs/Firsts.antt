-- The places where names stand first, as the code looks them up.
use Rattle.std.specs.Prelude.{ℕ, List, Option}
use Rattle.std.specs.Str.{bytes_eq}
use Rattle.std.specs.HashMap.{get_by}
use Rattle.host_layout.specs.declared.firsts.FirstPlaces.{FirstPlaces}

-- where a name stands first
abbrev pub place_in : FirstPlaces → List ℕ → Option ℕ
place_in places name = get_by (λ k. bytes_eq name k.items) places.first
