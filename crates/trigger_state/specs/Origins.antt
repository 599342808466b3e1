-- Origins of events, as the code finds them.
use Rattle.std.specs.Prelude.{◌≡◌, ℕ, ◌==◌, ◌&&◌, List, [], Option, Some, None}
use Rattle.std.specs.HashMap.{HashMap, get_by}
use Rattle.std.specs.Option.{option_map}
use Rattle.zbx_types.specs.declared.conf.Conf.{Conf}
use Rattle.zbx_types.specs.declared.entries.EventId.{EventId}
use Rattle.trigger_state.specs.Stages.{Origin, origin_of, trigger_named}
use Rattle.trigger_state.specs.declared.stage.Place.{Place}
use Rattle.trigger_state.specs.declared.stage.Told.{Told}

-- what is looked up of an origin in a configuration
abbrev pub place_of : Conf → Origin → Place
place_of conf origin = record { home = trigger_named conf origin; rank = origin.rank }

-- the place that is kept under an event
abbrev pub place_in : {S : Type 0} → HashMap (ℕ × ℕ) Place S → EventId → Option Place
place_in places event = get_by (λ k. (event.number == k.0) && (event.trigger == k.1)) places

-- under each event the place of its first origin is kept
abbrev pub FindsPlaces : {S : Type 0} → HashMap (ℕ × ℕ) Place S → Conf → List Origin → Type 0
FindsPlaces places conf origins = (event : EventId) → place_in places event ≡ option_map (place_of conf) (origin_of origins event)

-- the origins that are told, where there are any
abbrev pub origins_told : Option Told → List Origin
origins_told None = []
origins_told (Some told) = told.origins.items

-- their table finds their places
abbrev pub FindsTold : Conf → Option Told → Type 0
FindsTold conf None = Unit {0}
FindsTold conf (Some told) = FindsPlaces told.places conf told.origins.items
