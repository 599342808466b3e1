-- What a run answers for: how it opened, what it took, and what it printed.
use Rattle.std.specs.Prelude.{◌≡◌, ◌⊎◌, ◌≤◌, ◌+◌, ℕ, List, ◌++◌, length, Option, Some, Ok, is_some, IfSome, []}
use Rattle.std.specs.Option.{option_to_list}
use Rattle.std.specs.Io.KnownBytes.{IsAtEnd}
use Rattle.zbx_types.specs.declared.conf.Conf.{Conf}
use Rattle.zbx_types.specs.declared.entries.Numbered.{Numbered}
use Rattle.outside.specs.Causes.{Rose}
use Rattle.outside.specs.Disk.{DiskTells, LeavesOnly}
use Rattle.outside.specs.Tells.{SinkTells, WireTells}
use Rattle.outside.specs.declared.event.WireEvent.{WireEvent}
use Rattle.entry_laws.specs.InForce.{FitsLog, IsFull}
use Rattle.entry_step.specs.Log.{log_of}
use Rattle.intake_front.specs.Intake.{Limits, Intake, last_text}
use Rattle.intake_front.specs.Served.{served}
use Rattle.intake_front.specs.Fronted.{Fronted}
use Rattle.intake_front.specs.declared.answer.Stop.TheVariants as stop
use Rattle.intake_journal.specs.Kept.{longest_journal, base_in}
use Rattle.intake_journal.specs.Settled.{KeepsAsOneOf}
use Rattle.server_words.specs.declared.status.Counts.{Counts}
use Rattle.server_words.specs.declared.status.Status.{Status}
use Rattle.server_words.specs.declared.words.Plan.{Plan}
use Rattle.server_words.specs.Words.{plan_of}
use Rattle.server_words.specs.Printed.{ok_text, printed_text}
use Rattle.config_templates.specs.Flat.{flat_of}
use Rattle.journal_opening.specs.Opening.{IsAccepted, HasRoomAtOpening, BeginningEntries, FoundEntries, opening_intake, opening_lines}
use Rattle.journal_opening.specs.Reasons.{reason_of, Unconfigured, Bars, Unopened, has_for, enters_for}
use Rattle.journal_opening.specs.Recovered.{Found, FoundGroups, found_entries}
use Rattle.journal_opening.specs.Resumed.{HasBegun}
use Rattle.server_run.specs.Stops.{refusing, RunsOn, IsReached}
use Rattle.journal_opening.specs.Journals.{KeepsSome, Journals}
use Rattle.server_run.specs.Outbox.{LinesAre}
use Rattle.journal_opening.specs.Replayed.{flat, AreFlat, run_lines, run_counts}
use Rattle.server_run.specs.Events.{Doing}
use Rattle.base_laws.specs.Grounds.{start_of}
use Rattle.book_opening.specs.Outgoing.{Grew, GrewByFront, IsMendable}
use Rattle.server_run.specs.Sending.{Shows}
use Rattle.server_run.specs.Statuses.{Ending, Printing, whole_line, own_line, front_of_line, front_of_ok, course_of, EndsAs, LeftIs}

-- a run whose words had a plan and whose configuration is flat
pub record Configured (words : List (List ℕ)) (source : Option (List ℕ)) (plan : Plan) (conf : Conf) : Type 0 where
  pub plan_is : plan_of words ≡ Some plan
  pub text_is : IfSome source (λ all. conf.text ≡ all)
  pub conf_is : flat_of conf.text ≡ Ok conf

-- what was read of a run's words and configuration: its turns, its most entries, and the whole text of its source
pub record IsConfigured (words : List (List ℕ)) (source source' : Option (List ℕ)) (turns most : ℕ)
    (conf : Conf) : Type 0 where
  pub plan : Plan
  pub configured : Configured words source plan conf
  pub turns_are : turns ≡ plan.turns
  pub most_is : most ≡ plan.max_entries
  pub at_end : IsAtEnd source'

-- what the objects of a run tell at one moment, but for its printer: what its source has left and how often that has
-- failed, and what the wire, the disk of its journal and its outbox tell
pub record Objects : Type 1 where
  pub source : Option (List ℕ)
  pub source_faults : ℕ
  pub wire : WireTells
  pub disk : DiskTells
  pub outbox : SinkTells

-- a run that was configured, and is barred by what its file keeps or its outbox holds
abbrev pub IsBarred : List (List ℕ) → Objects → Status → Type 0
IsBarred words before s =
    (plan : Plan) × (conf : Conf) × Configured words before.source plan conf
    × Bars conf plan.max_entries before.disk.bytes before.outbox s

-- why a run didn't begin: it wasn't configured, or it was, and its journal or its outbox wasn't opened, or what the
-- journal kept couldn't be made ready, or it was barred
abbrev pub Refuses : List (List ℕ) → Objects → Objects → Status → Type 0
Refuses words before after s =
    Unconfigured words before.source before.source_faults after.source_faults s
    ⊎ ((plan : Plan) × (conf : Conf) × Configured words before.source plan conf
    × Unopened conf plan.max_entries before.disk after.disk before.outbox after.outbox s)

-- entries that a run found at its opening, which was configured
abbrev pub FoundBy : List (List ℕ) → Option (List ℕ) → Option (List ℕ) → List Numbered → Type 0
FoundBy words source file entries =
    (plan : Plan) × (conf : Conf) × Configured words source plan conf × FoundEntries file conf entries

-- entries with which a run was to begin, which was configured
abbrev pub BeginsBy : List (List ℕ) → Option (List ℕ) → Option (List ℕ) → List Numbered → Type 0
BeginsBy words source file entries =
    (plan : Plan) × (conf : Conf) × Configured words source plan conf × BeginningEntries file conf entries

-- which entries a run has that ended its opening with this status
abbrev pub HasBy : List (List ℕ) → Option (List ℕ) → Option (List ℕ) → Status → List Numbered → Type 0
HasBy words source file s entries =
    has_for (reason_of s) file (BeginsBy words source file) (FoundBy words source file) entries

-- entries that weren't in the journal before, and may have been in it since
abbrev pub EntersBy : List (List ℕ) → Option (List ℕ) → Option (List ℕ) → Status → List Numbered → Type 0
EntersBy words source file s = enters_for (reason_of s) (FoundBy words source file)

-- the limits of a run with this plan, whose disk refuses no group
abbrev pub limits_by : Plan → Limits
limits_by plan = record { max_entries = plan.max_entries; max_bytes = longest_journal; stop = 0 }

-- A run that began with an intake handled some events, of which only the last may have stopped it, and memory may have
-- been refused for one more. The wire gave these and no other, and where it tells its events they were its first; what
-- it tells is left stood behind them, unless a call of next failed. The run's entries, replies and closings are those
-- that the handled events make, of which the disk may have refused a group. A crash meanwhile left entries that they
-- reached.
pub record Finished (limits : Limits) (conf : Conf) (recovered : List Numbered) (begun : Intake)
    (entries : List Numbered) (turns : ℕ) (did : Doing) (wire wire' : WireTells) (ending : Ending) : Type 0 where
  pub handled : List WireEvent
  pub lost : Option WireEvent
  pub refused : ℕ
  pub runs_on : RunsOn limits conf begun handled
  pub few : length handled + length (option_to_list lost) ≤ turns
  pub given : wire'.given ≡ wire.given + length handled + length (option_to_list lost)
  pub told : IfSome wire.left (λ all. (rest : List WireEvent) × (all ≡ handled ++ (option_to_list lost ++ rest))
      × (LeftIs ending lost wire'.left rest ⊎ Rose wire.faults wire'.faults))
  pub entries_are : entries ≡ (served (refusing limits refused) conf begun handled).intake.entries
  pub ends : EndsAs ending turns (length handled) (served (refusing limits refused) conf begun handled).stop lost
  pub refused_is : (refused ≡ 0) ⊎ ((served (refusing limits refused) conf begun handled).stop ≡ Some stop.DiskFault)
  pub shows : Shows wire wire' (served (refusing limits refused) conf begun handled).replies
      (served (refusing limits refused) conf begun handled).shut
  pub journaled : did (IsReached (refusing limits refused) conf recovered begun handled)
      (served (refusing limits refused) conf begun handled).stop entries

-- A run that began: its words had a plan, its configuration is flat, its journal kept a base, which is empty where it has
-- none, and groups that are accepted, behind which there was room for the configuration, its outbox could be completed to
-- the lines with which it goes on, and it took events. Its entries are numbered behind the base one by one, so 1, 2, 3 and
-- so on where that is empty, and each fits the configuration in force where it stands. The text of the base and of each
-- Config among the entries is accepted, and the last of these texts is the run's. Behind the base's lines, which are as they
-- were, the outbox has the lines of one thread that replays the entries, and what is told of their counts is so.
pub record Followed (words : List (List ℕ)) (before after : Objects) (s : Status) (entries : List Numbered)
    (IsTold : Counts → Type 0) : Type 0 where
  pub plan : Plan
  pub conf : Conf
  pub configured : Configured words before.source plan conf
  pub found : Found
  pub finds : FoundGroups before.disk.bytes found
  pub accepted : IsAccepted found
  pub room : HasRoomAtOpening plan.max_entries conf found
  pub mendable : IsMendable found.base.lines before.outbox (opening_lines conf found)
  pub whole : IsFull (start_of flat found.base) (log_of entries)
  pub fits : FitsLog flat (start_of flat found.base) (log_of entries)
  pub taken : AreFlat found.base.text entries
  pub in_force : last_text found.base.text (log_of entries) ≡ Some conf.text
  pub finished : Finished (limits_by plan) conf (found_entries found) (opening_intake conf found) entries plan.turns
      (Journals (KeepsAsOneOf before.disk) before.disk after.disk found.base) before.wire after.wire (course_of s).ending
  pub lines : LinesAre (course_of s).out found.base.lines before.outbox after.outbox (run_lines found.base entries)
  pub counts : IsTold (run_counts found.base entries)

-- What a run has begun with: the plan's turns, the configuration of the text that the source told, all of which was
-- read, and the intake behind its journal.
pub record Opened {D : Type 0} (tells : D → DiskTells) (words : List (List ℕ)) (source source' : Option (List ℕ))
    (old : D) (turns : ℕ) (front : Fronted D) : Type 0 where
  pub plan : Plan
  pub conf : Conf
  pub configured : Configured words source plan conf
  pub turns_are : turns ≡ plan.turns
  pub at_end : IsAtEnd source'
  pub begun : HasBegun tells conf plan.max_entries old front

-- What became of a run that didn't begin: why, and the entries that it has. A crash meanwhile left what one before it
-- might have, or, where the run came so far, entries that it found, behind the file's base.
pub record Unbegun (words : List (List ℕ)) (before after : Objects) (entries : List Numbered) (s : Status) : Type 0 where
  pub why : Refuses words before after s
  pub told : is_some after.disk.bytes ≡ is_some before.disk.bytes
  pub later : before.disk.faults ≤ after.disk.faults
  pub found : (entries ≡ []) ⊎ FoundBy words before.source before.disk.bytes entries
  pub has : HasBy words before.source before.disk.bytes s entries
  pub left : IfSome before.disk.bytes (λ b. LeavesOnly before.disk after.disk
      (λ c. KeepsAsOneOf before.disk c ⊎ KeepsSome (base_in b) (EntersBy words before.source before.disk.bytes s) c))

-- some of a text from the front was printed, since the printer failed
abbrev pub CutShort : SinkTells → SinkTells → List ℕ → Type 0
CutShort print print' text = Rose print.faults print'.faults × GrewByFront print print' text

-- so much was printed of a status's own line, or of Ok's line
abbrev pub PrintsAs : Printing → SinkTells → SinkTells → List ℕ → List ℕ → Type 0
PrintsAs whole_line print print' own ok = Grew print print' own
PrintsAs own_line print print' own ok = Grew print print' own ⊎ CutShort print print' own
PrintsAs front_of_line print print' own ok = GrewByFront print print' own
PrintsAs front_of_ok print print' own ok = CutShort print print' ok

-- what was printed at a status, over the run's counts
abbrev pub Prints : Status → Counts → SinkTells → SinkTells → Type 0
Prints s counts print print' = PrintsAs (course_of s).line print print' (printed_text s counts) (ok_text counts)
