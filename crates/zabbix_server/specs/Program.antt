-- The status of the program's run, and the number with which it exits.
use Rattle.std.specs.Prelude.{◌≡◌, ◌⊎◌, ◌<◌, Ok, Err, Result, Bool, List, length, Option, Some, None, ℕ}
use Rattle.alert_media.specs.declared.media.Media.{Media}
use Rattle.alert_run.specs.declared.types.Note.{Note}
use Rattle.zbx_types.specs.declared.entries.Numbered.{Numbered}
use Rattle.zbx_types.specs.declared.memory.OutOfMemory.{OutOfMemory}
use Rattle.alert_queue.specs.declared.types.NoteMark.{NoteMark}
use Rattle.outside.specs.Disk.{DiskTells}
use Rattle.outside.specs.Spawning.{SpawnerTells}
use Rattle.outside.specs.Tells.{SinkTells, WireTells}
use Rattle.journal_copy.specs.Copies.{Disks, IsCopy}
use Rattle.server_jobs.specs.Alerts.{Around, ComesTo}
use Rattle.server_jobs.specs.Reports.{Prints}
use Rattle.server_jobs.specs.Sessions.{WorkTogetherIfAny}
use Rattle.server_jobs.specs.Working.{WorksIfAny}
use Rattle.server_words.specs.Words.{alerts_plan_of, checkpoint_plan_of}
use Rattle.server_words.specs.declared.words.Plan.{Plan}
use Rattle.server_words.specs.declared.status.Status.{Status}
use Rattle.server_words.specs.declared.status.Status.TheVariants as status
use Rattle.server_run.specs.Ran.{IsRun}
use Rattle.server_run.specs.Runs.{Objects}

-- the status of a run, or of one for whose objects there was no memory
abbrev pub status_in : Result Status OutOfMemory → Status
status_in (Ok s) = s
status_in (Err refused) = status.OutOfMemory

-- what the objects of a run told at one moment, but for its printer, and for what a crash would leave of its disk
pub record Seen : Type 0 where
  pub source : Option (List ℕ)
  pub source_faults : ℕ
  pub wire : WireTells
  pub file : Option (List ℕ)
  pub disk_faults : ℕ
  pub outbox : SinkTells

-- a disk that tells its bytes and its faults, and no image
abbrev pub without_images : Option (List ℕ) → ℕ → DiskTells
without_images file faults =
    record { bytes = file; images = λ _. ⊥; moment = 0; images_since = λ _ _. ⊥; faults = faults }

-- objects that tell this
abbrev pub objects_of : Seen → Objects
objects_of o = record {
  source = o.source;
  source_faults = o.source_faults;
  wire = o.wire;
  disk = without_images o.file o.disk_faults;
  outbox = o.outbox;
}

-- a status is that of a run over objects that told this, and a printer
abbrev pub IsStatusOf : List (List ℕ) → Seen → SinkTells → Status → Type 0
IsStatusOf words before line s =
    (after : Seen) × (line' : SinkTells) × (began : Bool) × (entries : List Numbered)
    × IsRun words (objects_of before) (objects_of after) line line' began entries s

-- a status is that of a run over some objects, which the caller made itself
abbrev pub IsRunStatus : List (List ℕ) → Status → Type 0
IsRunStatus words s = (before : Seen) × (line : SinkTells) × IsStatusOf words before line s

-- what the objects of a call for alerts told at one moment, but for its printer, and for what a crash would leave of its
-- disk; of several sessions each spawner
pub record AlertsSeen (T : Type 0) : Type 0 where
  pub lines : Option (List ℕ)
  pub lines_faults : ℕ
  pub document : Option (List ℕ)
  pub document_faults : ℕ
  pub file : Option (List ℕ)
  pub disk_faults : ℕ
  pub spawner : T

-- objects that told the one before a call and the other after it
abbrev pub around_of : {T : Type 0} → AlertsSeen T → AlertsSeen T → Around T
around_of before after = record {
  read = record {
    lines = before.lines;
    faults = before.lines_faults;
    faults' = after.lines_faults;
    document = before.document;
    document_faults = before.document_faults;
    document_faults' = after.document_faults;
  };
  disk = without_images before.file before.disk_faults;
  disk' = without_images after.file after.disk_faults;
  spawner = before.spawner;
  spawner' = after.spawner;
}

-- a status is that of a call for alerts that tries notes in this way, over objects that told this, and a printer
abbrev pub IsAlertsOf : {T : Type 0} → (Media → List Note → T → T → List NoteMark → List NoteMark → Type 0) → List (List ℕ) → AlertsSeen T → SinkTells → Status → Type 0
IsAlertsOf Works words before line s =
    (after : AlertsSeen _) × (line' : SinkTells) × (marks : List NoteMark)
    × ComesTo Works words (around_of before after) s marks × Prints s marks line line'

-- a status is that of a call for alerts by one session over some objects, which the caller made itself
abbrev pub IsOneStatus : List (List ℕ) → Status → Type 0
IsOneStatus words s = (before : AlertsSeen SpawnerTells) × (line : SinkTells) × IsAlertsOf WorksIfAny words before line s

-- it is that of one by so many sessions, each with a spawner of its own
abbrev pub IsSessionsStatus : List (List ℕ) → ℕ → Status → Type 0
IsSessionsStatus words count s =
    (before : AlertsSeen (List SpawnerTells)) × (line : SinkTells) × (length before.spawner ≡ count) × IsAlertsOf WorkTogetherIfAny words before line s

-- it is that of one by as many sessions as a plan asks for
abbrev pub IsAlertsStatus : List (List ℕ) → Plan → Status → Type 0
IsAlertsStatus words plan s = ((plan.sessions ≡ 1) × IsOneStatus words s) ⊎ ((1 < plan.sessions) × IsSessionsStatus words plan.sessions s)

-- what a disk told at one moment, but for what a crash would leave of it
pub record FileSeen : Type 0 where
  pub file : Option (List ℕ)
  pub faults : ℕ

-- a disk that told this
abbrev pub disk_of : FileSeen → DiskTells
disk_of seen = without_images seen.file seen.faults

-- the disks of a journal and of its copy that told these before a call and after it
abbrev pub disks_of : FileSeen → FileSeen → FileSeen → FileSeen → Disks
disks_of from from' into into' =
    record { from = disk_of from; from' = disk_of from'; into = disk_of into; into' = disk_of into' }

-- a status is that of a copy of a journal into a file, whose disks told this, and a printer
abbrev pub IsCopyOf : List (List ℕ) → FileSeen → FileSeen → SinkTells → Status → Type 0
IsCopyOf words from into line s =
    (from' : FileSeen) × (into' : FileSeen) × (line' : SinkTells) × IsCopy words (disks_of from from' into into') line line' s

-- a status is that of a copy over some objects, which the caller made itself
abbrev pub IsCopyStatus : List (List ℕ) → Status → Type 0
IsCopyStatus words s = (from : FileSeen) × (into : FileSeen) × (line : SinkTells) × IsCopyOf words from into line s

-- the status of words that have no plan for alerts: that of a copy where they have a plan for it, else of a run
abbrev pub IsOtherStatus : List (List ℕ) → Status → Type 0
IsOtherStatus words s =
    ((plan : Plan) × (checkpoint_plan_of words ≡ Some plan) × IsCopyStatus words s)
    ⊎ ((checkpoint_plan_of words ≡ None) × IsRunStatus words s)

-- the status of the program over its words: that of a call for alerts where they have a plan for it, else of a copy or of a
-- run
abbrev pub IsProgramStatus : List (List ℕ) → Status → Type 0
IsProgramStatus words s =
    ((plan : Plan) × (alerts_plan_of words ≡ Some plan) × IsAlertsStatus words plan s) ⊎ ((alerts_plan_of words ≡ None) × IsOtherStatus words s)
