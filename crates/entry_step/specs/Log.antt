-- Logs of numbered entries. A log has the newest entry first.
use Rattle.std.specs.Prelude.{◌≡◌, ◌≤◌, ◌<◌, ℕ, ◌==◌, Bool, true, false, List, [], ◌∷◌, length, reverse, Option, Some, None}
use Rattle.std.specs.Option.{option_or}
use Rattle.zbx_types.specs.Entries.{moment_of}
use Rattle.zbx_types.specs.Ids.{at_id}
use Rattle.zbx_types.specs.Items.{takes_values}
use Rattle.zbx_types.specs.declared.conf.Conf.{Conf}
use Rattle.zbx_types.specs.declared.items.Item.{Item}
use Rattle.zbx_types.specs.declared.entries.Entry.{Entry}
use Rattle.zbx_types.specs.declared.entries.Entry.TheVariants.{Config, Value, Tick}
use Rattle.zbx_types.specs.declared.entries.Numbered.{Numbered}
use Rattle.entry_step.specs.Start.{Start}

-- the log of a list of entries in the order of their numbers
abbrev pub log_of : List Numbered → List Numbered
log_of entries = reverse entries

-- the moment of a log's newest entry, or this one
abbrev pub moment_from : ℕ → List Numbered → ℕ
moment_from moment [] = moment
moment_from moment (e ∷ log) = moment_of e.entry

-- the moment of a log's newest entry, or that of the start
abbrev pub last_moment : Start → List Numbered → ℕ
last_moment start log = moment_from start.moment log

-- an entry is a Config
abbrev pub is_config : Entry → Bool
is_config (Config now text) = true
is_config (Value now item time value) = false
is_config (Tick now) = false

-- there is an item, and an entry may bring a value for it
abbrev pub is_taking : Option Item → Bool
is_taking None = false
is_taking (Some item) = takes_values item

-- a value is of an item that takes values, and isn't later than the moment at which it was taken
abbrev pub IsFitting : Conf → Entry → Type 0
IsFitting conf (Config now text) = Unit {0}
IsFitting conf (Tick now) = Unit {0}
IsFitting conf (Value now item time value) = (is_taking (at_id conf.items item) ≡ true) × (time ≤ now)

-- the moment of an entry, where it is a Tick
abbrev pub tick_of : Entry → Option ℕ
tick_of (Config now text) = None
tick_of (Value now item time value) = None
tick_of (Tick now) = Some now

-- the moment of the first Tick, with one more entry
abbrev pub tick_with : Option ℕ → Entry → Option ℕ
tick_with first entry = option_or first (tick_of entry)

-- the moment of the first Tick, before a log or in it
abbrev pub first_tick : Start → List Numbered → Option ℕ
first_tick start [] = start.tick
first_tick start (e ∷ log) = tick_with (first_tick start log) e.entry

-- the number of a log's newest entry, or that of the start
abbrev pub last_number : Start → List Numbered → ℕ
last_number start [] = start.number
last_number start (e ∷ log) = e.number

-- the numbers of a log rise, from that of the start on
abbrev pub IsRising : Start → List Numbered → Type 0
IsRising start [] = Unit {0}
IsRising start (e ∷ log) = (last_number start log < e.number) × IsRising start log

-- the first entry of a log is a Config, and no other is
abbrev pub HasOneConfig : List Numbered → Type 0
HasOneConfig [] = Unit {0}
HasOneConfig (e ∷ log) = HasOneConfig log × (is_config e.entry ≡ (length log == 0))

-- no moment of a log falls, and each of its values fits: so does each part of such a log
abbrev pub Suits : Start → List Numbered → Type 0
Suits start [] = Unit {0}
Suits start (e ∷ log) =
    Suits start log × (last_moment start log ≤ moment_of e.entry) × IsFitting start.stage.conf e.entry

-- a log fits a start, whose configuration its first entry brings
abbrev pub Fits : Start → List Numbered → Type 0
Fits start log = HasOneConfig log × Suits start log
