-- The first group of a journal whose entries don't fit: each fits the configuration in force where it stands. `flat`
-- tells the configuration that a text stands for.
use Rattle.std.specs.Prelude.{◌≡◌, ◌≤◌, ℕ, ◌+◌, ◌-◌, true, List, [], ◌∷◌, ◌++◌, length, reverse, option_map, Option, Some, None, slice_index_or}
use Rattle.zbx_types.specs.declared.conf.Conf.{Conf}
use Rattle.zbx_types.specs.declared.entries.Entry.{Entry}
use Rattle.zbx_types.specs.declared.entries.Numbered.{Numbered}
use Rattle.zbx_types.specs.Entries.{moment_of}
use Rattle.entry_laws.specs.InForce.{FitsLog, text_in, texts_on}
use Rattle.entry_step.specs.Log.{log_of, is_config, IsFitting}
use Rattle.entry_step.specs.Start.{Start, no_conf}
use Rattle.intake_journal.specs.declared.format.Group.{Group}
use Rattle.intake_front.specs.declared.fitting.Judged.{Judged}
use Rattle.intake_front.specs.Intake.{numbered_from}
use Rattle.intake_front.specs.Fronted.{numbered_of}
use Rattle.intake_front.specs.Standing.{IsOfText}

-- the entries of groups, numbered behind those of a start, fit it: where it has no configuration the first is a Config of
-- moment 0, no moment falls, and each value is of an enabled trapper item of the configuration in force, and no later than
-- its moment
abbrev pub GroupsFit : (List ℕ → Conf) → Start → List Group → Type 0
GroupsFit flat start groups = FitsLog flat start (log_of (numbered_of start.number groups))

-- the place of the first group whose entries don't fit: those before it fit, and with it they don't; none where all fit
abbrev pub IsFirstMisfit : (List ℕ → Conf) → Start → List Group → Option ℕ → Type 0
IsFirstMisfit flat start groups None = GroupsFit flat start groups
IsFirstMisfit flat start groups (Some at) =
    (before : List Group) × (group : Group) × (rest : List Group) × (groups ≡ before ++ group ∷ rest) × (group.at ≡ at)
    × GroupsFit flat start before × ¬ (GroupsFit flat start (before ++ group ∷ []))

-- the moment that a log has reached: that of its newest entry, or that of its start, where this has a configuration
abbrev pub reached : Start → List Numbered → Option ℕ
reached start [] = option_map (λ text. start.moment) (text_in start.stage.conf.text)
reached start (e ∷ log) = Some (moment_of e.entry)

-- a log fits its start, and so much of it was judged: the moment that it has reached, or None where it has reached none,
-- and how many configurations there were
pub record HasReached (flat : List ℕ → Conf) (start : Start) (log : List Numbered) (judged : Judged) : Type 0 where
  pub of_text : IsOfText flat start.stage.conf
  pub fits : FitsLog flat start log
  pub last : judged.last ≡ reached start log
  pub configs : judged.configs ≡ length (texts_on start.stage.conf.text (log_of log))

-- a log with entries more, before all of which an entry with this number stands
abbrev pub log_with : ℕ → List Numbered → List Entry → List Numbered
log_with before log entries = reverse (numbered_from (before + length log + 1) entries) ++ log

-- the configuration in force after so many, where these are all
abbrev pub in_force : List Conf → ℕ → Conf
in_force confs configs = slice_index_or confs (configs - 1) no_conf

-- an entry fits behind a log that has reached a moment, or is empty, where a configuration is in force
abbrev pub FitsAfter : Conf → Option ℕ → Entry → Type 0
FitsAfter conf None e = (is_config e ≡ true) × (moment_of e ≡ 0)
FitsAfter conf (Some last) e = (last ≤ moment_of e) × IsFitting conf e
