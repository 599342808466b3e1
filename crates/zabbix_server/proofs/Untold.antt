-- A run over objects is one over objects that tell no image of the disk.
use Rattle.std.proofs.Common.{◌≡◌, ◌⊎◌, ◌∙◌, inl, inr, ℕ, List, length, map, Bool, Option, Some, None, ap, arith}
use Rattle.std.specs.Prelude.{IfSome}
use Rattle.std.proofs.lemmas.List.{length-map}
use Rattle.outside.specs.Spawning.{SpawnerTells}
use Rattle.server_jobs.specs.Sessions.{WorkTogetherIfAny}
use Rattle.zbx_types.specs.declared.base.Base.{Base}
use Rattle.zbx_types.specs.declared.entries.Numbered.{Numbered}
use Rattle.outside.specs.Disk.{DiskTells, LeavesOnly}
use Rattle.outside.specs.Tells.{SinkTells}
use Rattle.intake_front.specs.Fronted.{Keeps, IsKept}
use Rattle.intake_front.specs.declared.answer.Stop.{Stop}
use Rattle.intake_journal.specs.Kept.{base_in}
use Rattle.intake_journal.specs.Settled.{KeepsAsOneOf}
use Rattle.server_words.specs.declared.status.Status.{Status}
use Rattle.server_run.specs.Ran.{IsRun}
use Rattle.server_run.specs.Runs.{Objects, EntersBy, Followed}
use Rattle.server_words.specs.declared.status.Counts.{Counts}
use Rattle.journal_opening.specs.Journals.{KeepsSome, Journals}
use Rattle.outside.specs.Causes.{Rose}
use Rattle.alert_marks.specs.Marks.{marks_in, EachKeeps}
use Rattle.alert_media.specs.declared.media.Media.{Media}
use Rattle.alert_queue.specs.declared.types.NoteMark.{NoteMark}
use Rattle.alert_run.specs.declared.types.Note.{Note}
use Rattle.server_jobs.specs.Alerts.{Around, IsCut, ComesTo}
use Rattle.server_jobs.specs.Reports.{Prints}
use Rattle.zabbix_server.specs.Program.{Seen, without_images, objects_of, AlertsSeen, IsAlertsOf, IsSessionsStatus}

-- what objects tell but for the images of the disk
abbrev pub seen_of : Objects → Seen
seen_of o = record { source = o.source; source_faults = o.source_faults; wire = o.wire; file = o.disk.bytes; disk_faults = o.disk.faults; outbox = o.outbox }

abbrev untold : DiskTells → DiskTells
untold d = without_images d.bytes d.faults

-- of a disk without images a crash leaves nothing
nothing_left : (old new : DiskTells) (o : Option (List ℕ)) (P : List ℕ → Type 0) → IfSome o (λ _. LeavesOnly (untold old) (untold new) P)
nothing_left old new None P = tt
nothing_left old new (Some b) P = record { later = omega arith; each = λ c none. absurd none; before = λ t c le none. absurd none }

-- the same where what it might leave hangs on what its file held
nothing_left_of : (old new : DiskTells) (o : Option (List ℕ)) (P : List ℕ → List ℕ → Type 0) → IfSome o (λ b. LeavesOnly (untold old) (untold new) (P b))
nothing_left_of old new None P = tt
nothing_left_of old new (Some b) P = record { later = omega arith; each = λ c none. absurd none; before = λ t c le none. absurd none }

kept_too : (disk : DiskTells) (base : Base) (entries : List Numbered) → IsKept disk base entries → IsKept (untold disk) base entries
kept_too disk base entries = by disk.bytes
  where
    by : (o : Option (List ℕ)) → IfSome o (λ b. Keeps base entries b × ((c : List ℕ) → disk.images c → Keeps base entries c)) → IfSome o (λ b. Keeps base entries b × ((c : List ℕ) → ⊥ → Keeps base entries c))
    by None k = tt
    by (Some b) k = (k.0, λ c none. absurd none)

journals_too : (old new : DiskTells) (base : Base) (among : List Numbered → Type 0) (reason : Option Stop) (entries : List Numbered) → Journals (KeepsAsOneOf old) old new base among reason entries
    → Journals (KeepsAsOneOf (untold old)) (untold old) (untold new) base among reason entries
journals_too old new base among reason entries j = record {
  left = nothing_left old new old.bytes _;
  fault = j.fault;
  kept = λ other. kept_too new base entries (j.kept other);
  later = j.later;
  told = j.told;
}

followed_too : (words : List (List ℕ)) (before after : Objects) (s : Status) (entries : List Numbered) (IsTold : Counts → Type 0) → Followed words before after s entries IsTold
    → Followed words (objects_of (seen_of before)) (objects_of (seen_of after)) s entries IsTold
followed_too words before after s entries IsTold f = record {
  plan = f.plan;
  conf = f.conf;
  configured = f.configured;
  found = f.found;
  finds = f.finds;
  accepted = f.accepted;
  room = f.room;
  mendable = f.mendable;
  whole = f.whole;
  fits = f.fits;
  taken = f.taken;
  in_force = f.in_force;
  finished = record {
    handled = f.finished.handled;
    lost = f.finished.lost;
    refused = f.finished.refused;
    runs_on = f.finished.runs_on;
    few = f.finished.few;
    given = f.finished.given;
    told = f.finished.told;
    entries_are = f.finished.entries_are;
    ends = f.finished.ends;
    refused_is = f.finished.refused_is;
    shows = f.finished.shows;
    journaled = journals_too before.disk after.disk f.found.base _ _ entries f.finished.journaled;
  };
  lines = f.lines;
  counts = f.counts;
}

pub run_too : (words : List (List ℕ)) (before after : Objects) (line line' : SinkTells) (began : Bool) (entries : List Numbered) (s : Status) → IsRun words before after line line' began entries s
    → IsRun words (objects_of (seen_of before)) (objects_of (seen_of after)) line line' began entries s
run_too words before after line line' began entries s r = record {
  usage = r.usage;
  not_command = r.not_command;
  taken = r.taken;
  to_the_end = r.to_the_end;
  config_refused = r.config_refused;
  refused_text = r.refused_text;
  pattern_refused = r.pattern_refused;
  pattern_too_large = r.pattern_too_large;
  barred = r.barred;
  bars = r.bars;
  source = r.source;
  wire = r.wire;
  disk = r.disk;
  outbox = r.outbox;
  print = r.print;
  not_begun = r.not_begun;
  has_found = r.has_found;
  has = r.has;
  stopped = λ n. nothing_left_of before.disk after.disk before.disk.bytes (λ b c. KeepsAsOneOf (untold before.disk) c ⊎ KeepsSome (base_in b) (EntersBy words before.source before.disk.bytes s) c);
  begun = r.begun;
  followed = λ y. followed_too words before after s entries _ (r.followed y);
  printed = r.printed;
  keeps = r.keeps;
  told = r.told;
  complete = λ plan text conf file found all a b d e f g h i j k l m none patterns.
      r.complete plan text conf file found all a b d e f g h i j k l m (record { source = none.source; wire = none.wire; disk = none.disk; outbox = none.outbox; printer = none.printer }) patterns;
}

-- ---- alerts

alerts_keep : (disk : DiskTells) (marks : List NoteMark) → EachKeeps disk marks → EachKeeps (untold disk) marks
alerts_keep disk marks = by disk.bytes
  where
    by : (o : Option (List ℕ)) → IfSome o (λ _. (c : List ℕ) → disk.images c → marks_in c ≡ Some marks) → IfSome o (λ _. (c : List ℕ) → ⊥ → marks_in c ≡ Some marks)
    by None k = tt
    by (Some b) k = λ c none. absurd none

-- what objects told of a call, but for the images of the disk
abbrev pub around_too : {T : Type 0} → Around T → Around T
around_too a = record a { disk = untold a.disk; disk' = untold a.disk' }

keeps_too : {T : Type 0} (a : Around T) (s : Status) (marks : List NoteMark) → EachKeeps a.disk' marks ⊎ (IsCut s × Rose a.disk.faults a.disk'.faults)
    → EachKeeps (untold a.disk') marks ⊎ (IsCut s × Rose a.disk.faults a.disk'.faults)
keeps_too a s marks (inl k) = inl (alerts_keep a.disk' marks k)
keeps_too a s marks (inr cut) = inr cut

-- what a call does to its spawners, in one way or another
abbrev Way : Type 0 → Type 1
Way T = Media → List Note → T → T → List NoteMark → List NoteMark → Type 0

pub comes_too : {T : Type 0} (Works : Way T) (words : List (List ℕ)) (a : Around T) (s : Status) (marks : List NoteMark) → ComesTo Works words a s marks → ComesTo Works words (around_too a) s marks
comes_too Works words a s marks (inl refusal) = inl refusal
comes_too Works words a s marks (inr w) = inr (record {
  notes = w.notes;
  media = w.media;
  both = w.both;
  before = w.before;
  recovered = w.recovered;
  works = w.works;
  why = w.why;
  keeps = keeps_too a s marks w.keeps;
})

pub alerts_too : {T : Type 0} (Works : Way T) (words : List (List ℕ)) (a : Around T) (s : Status) (marks : List NoteMark) (line line' : SinkTells) → ComesTo Works words a s marks → Prints s marks line line'
    → IsAlertsOf Works words (record { lines = a.read.lines; lines_faults = a.read.faults; document = a.read.document; document_faults = a.read.document_faults; file = a.disk.bytes; disk_faults = a.disk.faults; spawner = a.spawner }) line s
alerts_too Works words a s marks line line' comes prints =
    (record { lines = None; lines_faults = a.read.faults'; document = None; document_faults = a.read.document_faults'; file = a.disk'.bytes; disk_faults = a.disk'.faults; spawner = a.spawner' }, line', marks, comes_too Works words a s marks comes, prints)

-- a call by so many sessions
pub several : {H : Type 0} (f : H → SpawnerTells) (hands : List H) (words : List (List ℕ)) (count : ℕ) (before : AlertsSeen (List SpawnerTells)) (line : SinkTells) (s : Status)
    → before.spawner ≡ map f hands → length hands ≡ count → IsAlertsOf WorkTogetherIfAny words before line s → IsSessionsStatus words count s
several f hands words count before line s are many of = (before, line, ap length are ∙ length-map hands f ∙ many, of)
