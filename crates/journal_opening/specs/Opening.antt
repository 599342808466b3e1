-- What the opening of a run finds of its journal and of its outbox, and why it ends there.
use Rattle.std.specs.Prelude.{◌≡◌, ◌≢◌, ◌⊎◌, ◌-◌, ◌^◌, min, ℕ, nat_lt, ◌||◌, List, [], length, Contains, Option, Some, None, IsTrue}
use Rattle.zbx_types.specs.declared.conf.Conf.{Conf}
use Rattle.zbx_types.specs.declared.entries.Numbered.{Numbered}
use Rattle.intake_journal.specs.Kept.{longest_journal}
use Rattle.intake_front.specs.Intake.{Intake, opening_group, start}
use Rattle.intake_front.specs.Misfit.{IsFirstMisfit}
use Rattle.entry_laws.specs.InForce.{texts_on}
use Rattle.base_laws.specs.Grounds.{start_of}
use Rattle.server_words.specs.declared.status.Status.{Status}
use Rattle.server_words.specs.declared.status.Status.TheVariants as status
use Rattle.journal_opening.specs.Recovered.{Found, FoundGroups, found_entries, journal_bytes, IsFirstRefused}
use Rattle.journal_opening.specs.Replayed.{flat, AreFlat, IsGoodBase, run_lines}

-- what a file keeps is that of a run: one can begin with the base, the text of each Config is accepted, and the entries
-- fit
abbrev pub IsAccepted : Found → Type 0
IsAccepted found =
    IsGoodBase found.base × AreFlat found.base.text (found_entries found)
    × IsFirstMisfit flat (start_of flat found.base) found.groups None

-- why it isn't where a run can begin with the base: the first group with a Config whose text isn't accepted stands there;
-- or all are accepted, and the first group whose entries don't fit stands there
abbrev pub IsRejected : Found → Status → Type 0
IsRejected found (status.Damaged at) =
    IsFirstRefused found.base found.groups at ⊎ (AreFlat found.base.text (found_entries found)
    × IsFirstMisfit flat (start_of flat found.base) found.groups (Some at))
IsRejected found _ = ⊥

-- the groups behind such a base are accepted, or there is this reason not to
abbrev pub IsJudged : Found → Option Status → Type 0
IsJudged found None = IsAccepted found
IsJudged found (Some s) = IsRejected found s

-- the intake with which a run with a configuration goes on behind what its file keeps: where the last configuration has
-- another text, or there is none, this one is journaled behind it
abbrev pub opening_intake : Conf → Found → Intake
opening_intake conf found = start found.base conf.text (found_entries found) (journal_bytes found.first found.groups)

-- the entries with which it goes on
abbrev pub opening_entries : Conf → Found → List Numbered
opening_entries conf found = (opening_intake conf found).entries

-- and their lines
abbrev pub opening_lines : Conf → Found → List ℕ
opening_lines conf found = run_lines found.base (opening_entries conf found)

-- a configuration is to be journaled behind what a file keeps, and with it a journal of at most so many entries would be
-- full: it would have so many entries and bytes
abbrev pub IsFullAtOpening : ℕ → Conf → Found → ℕ → ℕ → Type 0
IsFullAtOpening most conf found entries bytes =
    (opening_group found.base conf.text (found_entries found) ≢ [])
    × (entries ≡ length (opening_intake conf found).entries)
    × (bytes ≡ min (opening_intake conf found).bytes (2 ^ 64 - 1))
    × IsTrue (nat_lt most entries || nat_lt longest_journal bytes)

-- there is room for it, or nothing is to be journaled
abbrev pub HasRoomAtOpening : ℕ → Conf → Found → Type 0
HasRoomAtOpening most conf found = (entries bytes : ℕ) → IsFullAtOpening most conf found entries bytes → ⊥

-- what a file keeps is accepted, and behind it there is room for the configuration; of the bytes of its base's lines, and
-- of the lines with which the run goes on, this is so
abbrev pub OfLines : ℕ → Conf → Option (List ℕ) → (ℕ → List ℕ → Type 0) → Type 0
OfLines most conf file Is =
    (found : Found) × FoundGroups file found × IsAccepted found × HasRoomAtOpening most conf found
    × Is found.base.lines (opening_lines conf found)

-- what a file keeps is accepted, and of the text of its base or of one of its Configs this is so
abbrev pub KeptText : Option (List ℕ) → (List ℕ → Type 0) → Type 0
KeptText file Is =
    (found : Found) × FoundGroups file found × IsAccepted found
    × (text : List ℕ) × Contains (texts_on found.base.text (found_entries found)) text × Is text

-- entries with which a run is to begin behind what its file keeps
abbrev pub BeginningEntries : Option (List ℕ) → Conf → List Numbered → Type 0
BeginningEntries file conf entries =
    (found : Found) × FoundGroups file found × (entries ≡ opening_entries conf found)

-- entries that a run finds at its opening: those of its file's groups, or these with its configuration behind them
abbrev pub FoundEntries : Option (List ℕ) → Conf → List Numbered → Type 0
FoundEntries file conf entries =
    (found : Found) × FoundGroups file found × ((entries ≡ found_entries found)
    ⊎ (entries ≡ opening_entries conf found))
