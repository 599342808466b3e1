-- What is known of a journal all of whose groups were read, and why one wasn't.
use Rattle.std.specs.Prelude.{◌≡◌, ◌⊎◌, ◌≤◌, ◌+◌, is_some, ℕ, List, [], ◌∷◌, ◌++◌, map, length, Option, Some, None, IfSome, ⊤}
use Rattle.zbx_types.specs.declared.base.Base.{Base}
use Rattle.zbx_types.specs.declared.conf.Conf.{Conf}
use Rattle.zbx_types.specs.declared.entries.Numbered.{Numbered}
use Rattle.outside.specs.Causes.{Rose}
use Rattle.outside.specs.Disk.{DiskTells, Only, LeavesOnly}
use Rattle.intake_journal.specs.Based.{most_counted}
use Rattle.intake_journal.specs.Bytes.{entries_bytes}
use Rattle.intake_journal.specs.Kept.{base_gate, kept_from, base_in, first_gate_in, kept, groups_of}
use Rattle.intake_journal.specs.Kept.Kept.{NotOurs, Unfinished, Damaged, Groups}
use Rattle.intake_journal.specs.Settled.{Journaled, KeepsAsOneOf, onto, count_entries}
use Rattle.intake_journal.specs.declared.format.Group.{Group}
use Rattle.intake_journal.specs.declared.state.State.TheVariants.{Ready}
use Rattle.intake_journal.specs.declared.state.JournalError.{JournalError}
use Rattle.intake_journal.specs.declared.state.JournalError.TheVariants as cause
use Rattle.intake_front.specs.Fronted.{numbered_of}
use Rattle.intake_front.specs.Misfit.{IsFirstMisfit, HasReached}
use Rattle.entry_laws.specs.InForce.{texts_on}
use Rattle.intake_front.specs.Standing.{StandsFor}
use Rattle.intake_front.specs.declared.fitting.Judged.{Judged}
use Rattle.entry_step.specs.Log.{log_of}
use Rattle.entry_step.specs.Start.{Start}
use Rattle.base_laws.specs.Grounds.{start_of}
use Rattle.server_words.specs.declared.status.Status.{Status}
use Rattle.server_words.specs.declared.status.Status.TheVariants as status
use Rattle.journal_opening.specs.declared.numbering.Numbering.{Numbering}
use Rattle.journal_opening.specs.Replayed.{flat, AreFlat, IsGoodBase}

-- what a file keeps: a base, which is the empty one where it has none, the place of the first gate behind it, and groups
pub record Found : Type 0 where
  pub base : Base
  pub first : ℕ
  pub groups : List Group

-- a file keeps this, where it is told
abbrev pub FoundGroups : Option (List ℕ) → Found → Type 0
FoundGroups file found =
    IfSome file (λ b. (base_in b ≡ found.base) × (first_gate_in b ≡ found.first) × (groups_of (kept b) ≡ Some found.groups))

-- the entries of the groups, numbered behind the base
abbrev pub found_entries : Found → List Numbered
found_entries found = numbered_of found.base.number found.groups

-- how many bytes a journal of these groups has, up to and with the gate behind the last, where its first gate stands here
abbrev pub journal_bytes : ℕ → List Group → ℕ
journal_bytes first [] = first + 1
journal_bytes first (g ∷ gs) = length (entries_bytes g.entries) + 9 + journal_bytes first gs

-- a journal with such groups, ready for more, all of it durable where its disk tells
pub record HasGroups {D : Type 0} (tells : D → DiskTells) (journal : Journaled D) (found : Found) : Type 0 where
  pub ready : journal.state ≡ Ready
  pub base : journal.base ≡ found.base
  pub count : journal.entries ≡ count_entries found.groups
  pub size : journal.at + 1 ≡ journal_bytes found.first found.groups
  pub keeps : IfSome (tells journal.disk).bytes (λ c. (base_in c ≡ found.base) × (groups_of (kept c) ≡ Some found.groups))
  pub durable : IfSome (tells journal.disk).bytes (λ c. Only c (tells journal.disk))

-- the first group behind a base with a Config whose text isn't accepted stands there: those before it are, and with it
-- they aren't all
abbrev pub IsFirstRefused : Base → List Group → ℕ → Type 0
IsFirstRefused base groups at =
    (before : List Group) × (group : Group) × (rest : List Group) × (groups ≡ before ++ group ∷ rest) × (group.at ≡ at)
    × AreFlat base.text (numbered_of base.number before)
    × ¬ (AreFlat base.text (numbered_of base.number (before ++ group ∷ [])))

-- the texts of a base and of the Configs of groups behind it were taken, one after the other: all are accepted, and these
-- are their configurations; or the first group with one that isn't stands there
abbrev pub AreTaken : Base → List Group → Option ℕ → List Conf → Type 0
AreTaken base groups None confs =
    let entries = numbered_of base.number groups in
    AreFlat base.text entries × (confs ≡ map flat (texts_on base.text entries))
AreTaken base groups (Some at) confs = IsFirstRefused base groups at

-- groups behind a start were judged one after the other: the place is that of the first one that doesn't fit, and where
-- all fit, the judge has judged them all
pub record AreJudged (start : Start) (groups : List Group) (misfit : Option ℕ) (judged : Judged) : Type 0 where
  pub misfit_is : IsFirstMisfit flat start groups misfit
  pub goes_on : misfit ≡ None → HasReached flat start (log_of (numbered_of start.number groups)) judged

-- what groups behind a base come to that were read: their entries are numbered behind the base's number, the texts of their
-- Configs were taken, and where all of these are accepted, the groups were judged
pub record IsNumbered (base : Base) (groups : List Group) (numbering : Numbering) : Type 0 where
  pub number_is : numbering.before ≡ base.number
  pub counted : numbering.before ≤ most_counted
  pub stands : StandsFor flat base (start_of flat base)
  pub entries_are : numbering.entries ≡ numbered_of base.number groups
  pub taken : AreTaken base groups numbering.refused numbering.confs.items
  pub judged : numbering.refused ≡ None → AreJudged (start_of flat base) groups numbering.misfit numbering.judge

-- a journal of which groups were read, where nothing was read before: these, in front of what is left
pub record IsReadSoFar {D : Type 0} (tells : D → DiskTells) (old new : Journaled D)
    (numbering : Numbering) : Type 0 where
  pub groups : List Group
  pub base : new.base ≡ old.base
  pub numbered : IsNumbered old.base groups numbering
  pub count : new.entries ≡ count_entries groups
  pub size : new.at + 1 ≡ journal_bytes old.first groups
  pub limits : (new.max_entries ≡ old.max_entries) × (new.max_bytes ≡ old.max_bytes)
  pub found : IfSome (tells old.disk).bytes (λ b. kept_from old.first b ≡ onto groups (kept_from new.at b))

-- a journal of which all groups were read that its file keeps, where nothing was read before
pub record IsReadThrough {D : Type 0} (tells : D → DiskTells) (old new : Journaled D)
    (numbering : Numbering) : Type 0 where
  pub groups : List Group
  pub base : new.base ≡ old.base
  pub numbered : IsNumbered old.base groups numbering
  pub ready : new.state ≡ Ready
  pub count : new.entries ≡ count_entries groups
  pub size : new.at + 1 ≡ journal_bytes old.first groups
  pub limits : (new.max_entries ≡ old.max_entries) × (new.max_bytes ≡ old.max_bytes)
  pub found : IfSome (tells old.disk).bytes (λ b. kept_from old.first b ≡ Groups groups)

-- the status of a run whose journal answers this
abbrev pub status_for : JournalError → Status
status_for cause.NotOurs = status.NotOurs
status_for cause.Unfinished = status.Unfinished
status_for (cause.Damaged at) = status.Damaged at
status_for cause.DiskFault = status.DiskFault
status_for cause.OutOfMemory = status.OutOfMemory

-- why the groups of a journal weren't read to their end, of which the first has its gate here
abbrev pub StopsReading : ℕ → Option (List ℕ) → ℕ → ℕ → Status → Type 0
StopsReading first file faults faults' (status.Damaged at) = IfSome file (λ b. kept_from first b ≡ Damaged at)
StopsReading first file faults faults' status.DiskFault = Rose faults faults'
StopsReading first file faults faults' status.OutOfMemory = ⊤
StopsReading first file faults faults' _ = ⊥

-- so ends a run that can begin with its base, or to which memory was refused before that was known
abbrev pub IsGoodFor : Base → Status → Type 0
IsGoodFor base s = IsGoodBase base ⊎ (s ≡ status.OutOfMemory)

-- so ends a run that can't begin with its base
abbrev pub IsBadFor : Base → Status → Type 0
IsBadFor base s = (s ≡ status.Damaged base_gate) × ¬ (IsGoodBase base)

-- a file is damaged at a place: there stands the gate of a base with which no run can begin; or a run can begin with the
-- file's base, and there stands an open gate that is followed by no base or no group
abbrev pub IsDamaged : List ℕ → ℕ → Type 0
IsDamaged file at =
    ((kept file ≡ Damaged at) × IsGoodBase (base_in file)) ⊎ ((at ≡ base_gate) × ¬ (IsGoodBase (base_in file)))

-- why a journal wasn't recovered
abbrev pub IsUnread : Option (List ℕ) → ℕ → ℕ → Status → Type 0
IsUnread file faults faults' status.NotOurs = IfSome file (λ b. kept b ≡ NotOurs)
IsUnread file faults faults' status.Unfinished = IfSome file (λ b. kept b ≡ Unfinished)
IsUnread file faults faults' (status.Damaged at) = IfSome file (λ b. IsDamaged b at)
IsUnread file faults faults' status.DiskFault = Rose faults faults'
IsUnread file faults faults' status.OutOfMemory = ⊤
IsUnread file faults faults' _ = ⊥

-- a disk that was gone on with: a crash at any moment since then leaves a file that keeps what one did that a crash
-- then might have left, where it tells
pub record GoesOn (old new : DiskTells) : Type 0 where
  pub told : is_some new.bytes ≡ is_some old.bytes
  pub later : old.faults ≤ new.faults
  pub moments : IfSome old.bytes (λ _. LeavesOnly old new (KeepsAsOneOf old))

-- a journal that was opened on a disk and is ready: what the disk's file kept, with which a run can begin, and what the
-- groups come to
pub record IsRecovered {D : Type 0} (tells : D → DiskTells) (old : D) (journal : Journaled D)
    (numbering : Numbering) : Type 0 where
  pub found : Found
  pub finds : FoundGroups (tells old).bytes found
  pub good : IsGoodBase found.base
  pub numbered : IsNumbered found.base found.groups numbering
  pub has : HasGroups tells journal found
