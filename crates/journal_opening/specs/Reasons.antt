-- Why a run ends at its opening: one row a status. All that is said of a run that doesn't begin is said over these.
use Rattle.std.specs.Prelude.{◌≡◌, ◌⊎◌, ℕ, List, [], Option, None, IfSome, IsSome, unwrap_or, ⊤}
use Rattle.zbx_types.specs.declared.conf.Conf.{Conf}
use Rattle.zbx_types.specs.declared.entries.Numbered.{Numbered}
use Rattle.outside.specs.Causes.{Rose}
use Rattle.outside.specs.Disk.{DiskTells}
use Rattle.outside.specs.Tells.{SinkTells}
use Rattle.intake_journal.specs.Kept.{base_in, kept}
use Rattle.intake_journal.specs.Kept.Kept.{NotOurs, Unfinished}
use Rattle.intake_front.specs.Fronted.{kept_entries}
use Rattle.config_templates.specs.Flat.{flat_of}
use Rattle.host_layout.specs.Places.{refuse}
use Rattle.pattern_set.specs.Patterns.{IsNoPattern}
use Rattle.server_words.specs.Words.{plan_of}
use Rattle.server_words.specs.declared.status.Status.{Status}
use Rattle.server_words.specs.declared.status.Status.TheVariants as status
use Rattle.journal_opening.specs.Patterns.{HasFlawAt, HoldsBrace}
use Rattle.journal_opening.specs.Opening.{IsAccepted, IsRejected, IsFullAtOpening, OfLines, KeptText}
use Rattle.journal_opening.specs.Outbox.{IsBehind, IsAhead, IsOther}
use Rattle.journal_opening.specs.Recovered.{Found, FoundGroups, IsDamaged}
use Rattle.journal_opening.specs.Replayed.{IsGoodBase}

-- a run doesn't end so before it has begun; its words have no plan; memory was refused; its source failed; the text of
-- its configuration, or of one that its journal kept, is like this; its disk failed; the file of its journal is like
-- this, for its configuration and for so many entries at most; its outbox failed; its outbox is like this beside so many
-- bytes of its base's lines, and those of the entries with which it goes on
pub data Reason : Type 1 where
  no_reason : Reason
  in_words : Reason
  by_memory : Reason
  by_source : Reason
  in_text : (List ℕ → Type 0) → Reason
  by_disk : Reason
  in_journal : (Conf → ℕ → Option (List ℕ) → Type 0) → Reason
  by_outbox : Reason
  in_outbox : (SinkTells → ℕ → List ℕ → Type 0) → Reason

-- what a file keeps isn't that of a run, though one can begin with its base
abbrev pub Rejects : Option (List ℕ) → Status → Type 0
Rejects file s = (found : Found) × FoundGroups file found × IsGoodBase found.base × IsRejected found s

-- what a file keeps is accepted, and behind it there is no room for the configuration: a journal of at most so many
-- entries would have so many, and so many bytes
abbrev pub FillsUp : Conf → ℕ → Option (List ℕ) → ℕ → ℕ → Type 0
FillsUp conf most file entries bytes =
    (found : Found) × FoundGroups file found × IsAccepted found × IsFullAtOpening most conf found entries bytes

-- why a run ends at its opening with a status
abbrev pub reason_of : Status → Reason
reason_of status.Usage = in_words
reason_of status.OutOfMemory = by_memory
reason_of status.SourceFault = by_source
reason_of (status.ConfigRefused path cause) = in_text (λ text. flat_of text ≡ refuse path cause)
reason_of (status.PatternRefused path) = in_text (HasFlawAt IsNoPattern path)
reason_of (status.PatternTooLarge path) = in_text (HasFlawAt HoldsBrace path)
reason_of status.DiskFault = by_disk
reason_of status.NotOurs = in_journal (λ conf most file. IfSome file (λ b. kept b ≡ NotOurs))
reason_of status.Unfinished = in_journal (λ conf most file. IfSome file (λ b. kept b ≡ Unfinished))
reason_of (status.Damaged at) =
    in_journal (λ conf most file. IfSome file (λ b. IsDamaged b at) ⊎ Rejects file (status.Damaged at))
reason_of (status.Full entries bytes) = in_journal (λ conf most file. FillsUp conf most file entries bytes)
reason_of status.OutboxFault = by_outbox
reason_of (status.OutboxBehind held base) = in_outbox (λ outbox before lines. IsBehind outbox before held base)
reason_of (status.OutboxAhead held count) = in_outbox (λ outbox before lines. IsAhead outbox before lines held count)
reason_of (status.OutboxDiffers at) = in_outbox (λ outbox before lines. IsOther outbox before lines at)
reason_of _ = no_reason

-- a status of a run that hasn't begun
abbrev pub ends_opening : Reason → Type 0
ends_opening no_reason = ⊥
ends_opening _ = ⊤

abbrev pub IsRefusal : Status → Type 0
IsRefusal s = ends_opening (reason_of s)

-- a status that names what the journal or the outbox of a run was at its opening
abbrev pub names_object : Reason → Type 0
names_object (in_journal Is) = ⊤
names_object (in_outbox Is) = ⊤
names_object _ = ⊥

abbrev pub IsBarring : Status → Type 0
IsBarring s = names_object (reason_of s)

-- one that names what the outbox was
abbrev pub names_outbox : Reason → Type 0
names_outbox (in_outbox Is) = ⊤
names_outbox _ = ⊥

abbrev pub NamesOutbox : Status → Type 0
NamesOutbox s = names_outbox (reason_of s)

-- an outbox of which a status is said tells as much: its bytes, where one of them differs
abbrev pub IsSeen : SinkTells → Status → Type 0
IsSeen outbox (status.OutboxDiffers at) = IsSome outbox.bytes
IsSeen outbox _ = ⊤

-- why the text of a configuration couldn't be taken: memory was refused, it is refused for its first fault, or a
-- pattern of it isn't one, or holds a brace and is too large
abbrev pub untaken_for : Reason → List ℕ → Type 0
untaken_for by_memory text = ⊤
untaken_for (in_text Is) text = Is text
untaken_for _ text = ⊥

abbrev pub IsUntaken : List ℕ → Status → Type 0
IsUntaken text s = untaken_for (reason_of s) text

-- why a run wasn't configured: its words have no plan; memory was refused; or they have one, and its source failed,
-- or the source's text couldn't be taken
abbrev pub unconfigured_for : Reason → List (List ℕ) → Option (List ℕ) → ℕ → ℕ → Type 0
unconfigured_for in_words words source faults faults' = plan_of words ≡ None
unconfigured_for by_memory words source faults faults' = ⊤
unconfigured_for by_source words source faults faults' = IsSome (plan_of words) × Rose faults faults'
unconfigured_for (in_text Is) words source faults faults' = IsSome (plan_of words) × IfSome source Is
unconfigured_for _ words source faults faults' = ⊥

abbrev pub Unconfigured : List (List ℕ) → Option (List ℕ) → ℕ → ℕ → Status → Type 0
Unconfigured words source faults faults' s = unconfigured_for (reason_of s) words source faults faults'

-- what bars a run with this configuration, which allows so many entries: what its file keeps, or, where that is accepted
-- and there is room for the configuration, what its outbox holds
abbrev pub bars_for : Reason → Conf → ℕ → Option (List ℕ) → SinkTells → Type 0
bars_for (in_journal Is) conf most file outbox = Is conf most file
bars_for (in_outbox Is) conf most file outbox = OfLines most conf file (Is outbox)
bars_for _ conf most file outbox = ⊥

abbrev pub Bars : Conf → ℕ → Option (List ℕ) → SinkTells → Status → Type 0
Bars conf most file outbox s = bars_for (reason_of s) conf most file outbox

-- why a run that was configured doesn't begin: memory was refused, or its disk failed, or the text of a configuration
-- that its journal kept is like this, or it was barred, or its outbox failed behind a journal that was accepted
abbrev pub unopened_for : Reason → Conf → ℕ → DiskTells → DiskTells → SinkTells → SinkTells → Type 0
unopened_for by_memory conf most old new outbox outbox' = ⊤
unopened_for by_disk conf most old new outbox outbox' = Rose old.faults new.faults
unopened_for (in_text Is) conf most old new outbox outbox' = KeptText old.bytes Is
unopened_for by_outbox conf most old new outbox outbox' =
    OfLines most conf old.bytes (λ before lines. Rose outbox.faults outbox'.faults)
unopened_for (in_journal Is) conf most old new outbox outbox' = Is conf most old.bytes
unopened_for (in_outbox Is) conf most old new outbox outbox' = OfLines most conf old.bytes (Is outbox)
unopened_for _ conf most old new outbox outbox' = ⊥

abbrev pub Unopened : Conf → ℕ → DiskTells → DiskTells → SinkTells → SinkTells → Status → Type 0
Unopened conf most old new outbox outbox' s = unopened_for (reason_of s) conf most old new outbox outbox'

-- the entries that a file keeps, and none where it is no journal, or where no run can begin with its base
abbrev pub HasKept : List ℕ → List Numbered → Type 0
HasKept file entries =
    (entries ≡ unwrap_or (kept_entries file) []) ⊎ ((entries ≡ []) × ¬ (IsGoodBase (base_in file)))

-- Which entries a run has that ended so at its opening: what its file keeps; those with which it was to begin; where
-- memory or its disk failed it none, or some that it found; else none.
abbrev pub has_for : Reason → Option (List ℕ) → (List Numbered → Type 0) → (List Numbered → Type 0) → List Numbered
    → Type 0
has_for (in_journal Is) file Begins Finds entries = IfSome file (λ b. HasKept b entries)
has_for (in_outbox Is) file Begins Finds entries = Begins entries
has_for by_outbox file Begins Finds entries = Begins entries
has_for by_memory file Begins Finds entries = (entries ≡ []) ⊎ Finds entries
has_for by_disk file Begins Finds entries = (entries ≡ []) ⊎ Finds entries
has_for _ file Begins Finds entries = entries ≡ []

-- which entries a crash may have left by then that weren't in the journal before: some that the run found, where it
-- came as far as to open the journal
abbrev pub enters_for : Reason → (List Numbered → Type 0) → List Numbered → Type 0
enters_for (in_outbox Is) Finds entries = Finds entries
enters_for by_outbox Finds entries = Finds entries
enters_for by_memory Finds entries = Finds entries
enters_for by_disk Finds entries = Finds entries
enters_for _ Finds entries = ⊥
