-- Where the entries of a journal end.
use Rattle.std.specs.Prelude.{ℕ, List, [], ◌∷◌, Option}
use Rattle.zbx_types.specs.declared.base.Base.{Base}
use Rattle.zbx_types.specs.declared.entries.Numbered.{Numbered}
use Rattle.base_laws.specs.Bases.{last_tick}
use Rattle.base_state.specs.declared.place.Place.{Place}
use Rattle.entry_step.specs.Log.{log_of, moment_from}

-- the number of a log's newest entry, or that before it
abbrev pub number_from : ℕ → List Numbered → ℕ
number_from number [] = number
number_from number (e ∷ log) = e.number

-- the place where entries on a base end, with this first Tick and so many bytes of all lines
abbrev pub place_of : Base → List Numbered → Option ℕ → ℕ → Place
place_of base entries first lines = record {
  number = number_from base.number (log_of entries);
  now = moment_from base.now (log_of entries);
  first_tick = first;
  last_tick = last_tick base.last_tick (log_of entries);
  lines = lines;
}
