-- Hosts as the code reads their items and triggers.
use Rattle.std.specs.Prelude.{◌≡◌, ℕ, List, map, position}
use Rattle.std.specs.Str.{bytes_eq}
use Rattle.config_read.specs.declared.raw.RawHost.{RawHost}
use Rattle.host_layout.specs.Places.{Placed}
use Rattle.host_layout.specs.Sources.{placed_of}
use Rattle.host_layout.specs.Firsts.{place_in}
use Rattle.host_layout.specs.Hosts.{Owner}
use Rattle.host_layout.specs.declared.firsts.FirstPlaces.{FirstPlaces}
use Rattle.host_layout.specs.declared.owners.Owner.{Owner as Held}

-- the sources of a host
abbrev pub sources_now : Held → List (Placed RawHost)
sources_now o = map placed_of o.sources

-- a host with its sources
abbrev pub owner_now : Held → Owner
owner_now o = record { id = o.id; name = o.name.now; sources = sources_now o }

-- the places are those of the names of the hosts
abbrev pub KnowsHosts : FirstPlaces → List RawHost → Type 0
KnowsHosts places hosts = (sought : List ℕ) → place_in places sought ≡ position (λ h. bytes_eq h.name sought) hosts

-- the places are those of the names of the sources
abbrev pub KnowsSources : FirstPlaces → List (Placed RawHost) → Type 0
KnowsSources places sources = (sought : List ℕ) → place_in places sought ≡ position (λ s. bytes_eq s.body.name sought) sources
