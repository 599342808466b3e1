-- The configuration in force along a whole log, and what a log leaves for the entries that follow it. A log stands on a
-- start: nothing, or what other entries have left. `flat` tells the configuration that a text stands for.
use Rattle.std.specs.Prelude.{◌≡◌, ◌≤◌, ◌+◌, ℕ, true, false, Option, Some, None, List, [], ◌∷◌, ◌++◌, length, option_to_list}
use Rattle.zbx_types.specs.Entries.{moment_of}
use Rattle.zbx_types.specs.Ids.{at_id}
use Rattle.zbx_types.specs.declared.conf.Conf.{Conf}
use Rattle.zbx_types.specs.declared.entries.Entry.{Entry}
use Rattle.zbx_types.specs.declared.entries.Entry.TheVariants.{Config, Value, Tick}
use Rattle.zbx_types.specs.declared.entries.Numbered.{Numbered}
use Rattle.zbx_types.specs.declared.entries.Rec.{Rec}
use Rattle.entry_step.specs.Behind.{behind}
use Rattle.entry_step.specs.Each.{Each}
use Rattle.entry_step.specs.InForce.{SuitsWhole, HoldsAt}
use Rattle.entry_step.specs.Laws.{IsGood}
use Rattle.entry_step.specs.Log.{is_config, last_moment, last_number, IsFitting, IsRising, Suits}
use Rattle.entry_step.specs.Named.{AreDistinct}
use Rattle.entry_step.specs.Records.{replay}
use Rattle.entry_step.specs.Represents.{CellsView, Holds}
use Rattle.entry_step.specs.Start.{Start, first_start, nothing}
use Rattle.entry_step.specs.Whole.{Point, point, whole_replay, FitsStart, FitsWhole}

-- a start on which a whole log can stand: what it keeps fits, what is no item has no history, and where no configuration is
-- in force yet, it is of moment 0
pub record IsGround (start : Start) : Type 0 where
  pub fits : FitsStart start
  pub absent : (id : ℕ) → at_id start.stage.conf.items id ≡ None → start.histories id ≡ []
  pub moment : start.stage.conf.text ≡ [] → start.moment ≡ 0

-- the configuration in force behind an entry, where this is the one before it
abbrev pub conf_with : (List ℕ → Conf) → Conf → Entry → Conf
conf_with flat conf (Config now text) = flat text
conf_with flat conf (Value now item time value) = conf
conf_with flat conf (Tick now) = conf

-- the configuration in force behind a log: that of its last Config, or that of its start
abbrev pub conf_behind : (List ℕ → Conf) → Start → List Numbered → Conf
conf_behind flat start [] = start.stage.conf
conf_behind flat start (e ∷ log) = conf_with flat (conf_behind flat start log) e.entry

-- an entry fits behind another one of this moment, where a configuration is in force: its moment isn't before that one, and
-- a value is of an enabled trapper item and no later than its moment
abbrev pub FitsLater : Conf → ℕ → Entry → Type 0
FitsLater conf moment e = (moment ≤ moment_of e) × IsFitting conf e

-- an entry fits a start of this moment with a configuration of this text: where it has none, it is a Config of moment 0
abbrev pub FitsOn : List ℕ → Conf → ℕ → Entry → Type 0
FitsOn [] conf moment e = (is_config e ≡ true) × (moment_of e ≡ 0)
FitsOn (byte ∷ text) conf moment e = FitsLater conf moment e

-- an entry fits behind a log, behind which a configuration is in force
abbrev pub FitsBehind : Conf → Start → List Numbered → Entry → Type 0
FitsBehind conf start [] e = FitsOn start.stage.conf.text conf start.moment e
FitsBehind conf start (a ∷ log) e = FitsLater conf (moment_of a.entry) e

-- a whole log fits its start: each entry fits behind those before it
abbrev pub FitsLog : (List ℕ → Conf) → Start → List Numbered → Type 0
FitsLog flat start [] = Unit {0}
FitsLog flat start (e ∷ log) = FitsLog flat start log × FitsBehind (conf_behind flat start log) start log e.entry

-- a log is full: its numbers go on by one from that of its start
abbrev pub IsFull : Start → List Numbered → Type 0
IsFull start [] = Unit {0}
IsFull start (e ∷ log) = IsFull start log × (e.number ≡ start.number + length log + 1)

-- an entry is no Config
abbrev pub IsPlain : Numbered → Type 0
IsPlain e = is_config e.entry ≡ false

-- what a whole log leaves for the entries that follow it, which are Values and Ticks
abbrev pub left_by : Point → Start
left_by p = behind p.start p.since

-- and what it leaves on a start
abbrev pub behind_all : (List ℕ → Conf) → Start → List Numbered → Start
behind_all flat start log = left_by (point flat start log)

-- Nothing is such a start.
abbrev pub NothingIsGround : Type 0
NothingIsGround = IsGround nothing

-- The configuration in force at the end of a whole log is that of its last Config, or that of its start.
abbrev pub ConfIsBehind : Type 0
ConfIsBehind = (flat : List ℕ → Conf) (start : Start) (log : List Numbered) → (point flat start log).start.stage.conf ≡ conf_behind flat start log

-- Values and Ticks behind a whole log make what they make on what the log leaves.
abbrev pub ReplayOn : Type 0
ReplayOn = (flat : List ℕ → Conf) (start : Start) (newer older : List Numbered) → Each IsPlain newer
    → whole_replay flat start (newer ++ older) ≡ whole_replay flat start older ++ replay (behind_all flat start older) newer

-- the text of an entry, where it is a Config
abbrev pub texts_of : Entry → List (List ℕ)
texts_of (Config now text) = text ∷ []
texts_of (Value now item time value) = []
texts_of (Tick now) = []

-- the texts of the Configs among entries, in their order
abbrev pub config_texts : List Numbered → List (List ℕ)
config_texts [] = []
config_texts (e ∷ es) = texts_of e.entry ++ config_texts es

-- a text, where there is one: nothing that stands before entries has none
abbrev pub text_in : List ℕ → Option (List ℕ)
text_in [] = None
text_in (byte ∷ text) = Some (byte ∷ text)

-- the texts of the configurations along entries behind a text: this one, where there is one, and those of the Configs
abbrev pub texts_on : List ℕ → List Numbered → List (List ℕ)
texts_on text entries = option_to_list (text_in text) ++ config_texts entries

-- The texts of the Configs among entries and some more.
abbrev pub ConfigTextsAppend : Type 0
ConfigTextsAppend = (xs ys : List Numbered) → config_texts (xs ++ ys) ≡ config_texts xs ++ config_texts ys

-- in no configuration that a text stands for two triggers have the same names
abbrev pub AllDistinct : (List ℕ → Conf) → Type 0
AllDistinct flat = (text : List ℕ) → AreDistinct (flat text)

-- The records of what a whole log leaves are those of its start and those that its entries make.
abbrev pub RecordsBehindAll : Type 0
RecordsBehindAll = (flat : List ℕ → Conf) (start : Start) (log : List Numbered)
    → (behind_all flat start log).records ≡ start.records ++ whole_replay flat start log

-- Its number is that of the last entry.
abbrev pub NumberBehindAll : Type 0
NumberBehindAll = (flat : List ℕ → Conf) (start : Start) (log : List Numbered) → (behind_all flat start log).number ≡ last_number start log

-- Its moment is that of the last entry.
abbrev pub MomentBehindAll : Type 0
MomentBehindAll = (flat : List ℕ → Conf) (start : Start) (log : List Numbered) → (behind_all flat start log).moment ≡ last_moment start log

-- A log that fits suits its start.
abbrev pub FitsSuits : Type 0
FitsSuits = (flat : List ℕ → Conf) (start : Start) (log : List Numbered) → IsGround start → FitsLog flat start log → SuitsWhole flat start log

-- Where a whole log suits its start, the entries behind its last Config suit what stands behind that one.
abbrev pub SuitsSince : Type 0
SuitsSince = (flat : List ℕ → Conf) (start : Start) (log : List Numbered) → SuitsWhole flat start log
    → Suits (point flat start log).start (point flat start log).since

-- The numbers of a full log rise.
abbrev pub FullRises : Type 0
FullRises = (start : Start) (log : List Numbered) → IsFull start log → IsRising start log

-- A log whose numbers rise fits, where no configuration has two triggers of the same names.
abbrev pub RisingFits : Type 0
RisingFits = (flat : List ℕ → Conf) (start : Start) (log : List Numbered) → AllDistinct flat → IsGround start → IsRising start log
    → FitsWhole flat start log

-- What such a log leaves is good.
abbrev pub GoodBehind : Type 0
GoodBehind = (flat : List ℕ → Conf) (start : Start) (log : List Numbered) → AllDistinct flat → IsGround start → IsRising start log
    → IsGood (behind_all flat start log)

-- What represents the cells of a whole log that fits holds nothing yet behind what the log leaves.
abbrev pub HoldsBehindAll : Type 0
HoldsBehindAll = (flat : List ℕ → Conf) (start : Start) (log : List Numbered) (held : CellsView) → IsGround start → FitsLog flat start log
    → HoldsAt (point flat start log) held → Holds (behind_all flat start log) held []

-- a log has an entry, or its start a configuration
abbrev pub HasBegun : Start → List Numbered → Type 0
HasBegun start log = 1 ≤ length start.stage.conf.text + length log

-- Values and Ticks behind a log that has begun fit where they suit what the entries before them leave, which fit.
abbrev pub PlainFits : Type 0
PlainFits = (flat : List ℕ → Conf) (start : Start) (newer older : List Numbered) → HasBegun start older → Each IsPlain newer
    → (FitsLog flat start (newer ++ older) → FitsLog flat start older × Suits (behind_all flat start older) newer)
    × (FitsLog flat start older → Suits (behind_all flat start older) newer → FitsLog flat start (newer ++ older))

-- What holds a fresh start represents the cells of the log of one Config of moment 0.
abbrev pub FirstHeld : Type 0
FirstHeld = (flat : List ℕ → Conf) (text : List ℕ) (conf : Conf) (held : CellsView) → flat text ≡ conf → Holds (first_start conf) held []
    → let first : Numbered = record { number = 1; entry = Config 0 text } in
    HoldsAt (point flat nothing (first ∷ [])) held

-- What holds a start represents the cells of no entries on it.
abbrev pub GroundHeld : Type 0
GroundHeld = (flat : List ℕ → Conf) (start : Start) (held : CellsView) → Holds start held [] → HoldsAt (point flat start []) held
