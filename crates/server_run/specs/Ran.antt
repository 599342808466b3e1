-- The contract of a run: what holds of its status, over what its objects tell before and after it.
use Rattle.std.specs.Prelude.{◌≡◌, ◌⊎◌, ℕ, Bool, true, false, List, [], take, Some, None, Ok, is_some, All, IfSome, IsSome}
use Rattle.std.specs.Io.KnownBytes.{IsAtEnd}
use Rattle.zbx_types.specs.declared.causes.Cause.{Cause}
use Rattle.zbx_types.specs.declared.conf.Conf.{Conf}
use Rattle.zbx_types.specs.declared.entries.Numbered.{Numbered}
use Rattle.outside.specs.Causes.{Rose}
use Rattle.outside.specs.Disk.{LeavesOnly}
use Rattle.outside.specs.Tells.{SinkTells}
use Rattle.outside.specs.declared.event.WireEvent.{WireEvent}
use Rattle.config_templates.specs.Flat.{flat_of}
use Rattle.host_layout.specs.Places.{refuse}
use Rattle.intake_journal.specs.Kept.{base_in}
use Rattle.intake_journal.specs.Settled.{KeepsAsOneOf}
use Rattle.intake_front.specs.Fronted.{Keeps}
use Rattle.intake_front.specs.Served.{served}
use Rattle.entry_laws.specs.InForce.{texts_on}
use Rattle.intake_front.specs.declared.answer.Stop.TheVariants as stop
use Rattle.server_words.specs.Words.{plan_of}
use Rattle.server_words.specs.declared.words.Plan.{Plan}
use Rattle.server_words.specs.declared.status.Counts.{Counts}
use Rattle.server_words.specs.declared.status.Status.{Status}
use Rattle.server_words.specs.declared.status.Status.TheVariants as status
use Rattle.pattern_set.specs.Patterns.{IsPattern, IsNoPattern}
use Rattle.journal_opening.specs.Patterns.{HasFlawAt, HoldsBrace}
use Rattle.server_run.specs.Statuses.{YieldsTo, IsCourse, IsUnprinted}
use Rattle.journal_opening.specs.Journals.{KeepsSome}
use Rattle.book_opening.specs.Outgoing.{IsLeft, IsMendable}
use Rattle.journal_opening.specs.Opening.{IsAccepted, HasRoomAtOpening, KeptText, opening_intake, opening_lines}
use Rattle.journal_opening.specs.Recovered.{Found, FoundGroups, found_entries}
use Rattle.journal_opening.specs.Replayed.{flat}
use Rattle.journal_opening.specs.Reasons.{IsRefusal, IsBarring, NamesOutbox, IsSeen, Bars}
use Rattle.server_run.specs.Ports.{ReadsUpTo}
use Rattle.server_run.specs.Runs.{Objects, IsBarred, FoundBy, HasBy, EntersBy, Unbegun, Followed, Prints, limits_by}

-- no count of faults rose
pub record NoneRose (before after : Objects) (line line' : SinkTells) : Type 0 where
  pub source : Rose before.source_faults after.source_faults → ⊥
  pub wire : Rose before.wire.faults after.wire.faults → ⊥
  pub disk : Rose before.disk.faults after.disk.faults → ⊥
  pub outbox : Rose before.outbox.faults after.outbox.faults → ⊥
  pub printer : Rose line.faults line'.faults → ⊥

-- what holds of a run up to its printed line, which began or not, has these entries and counts, and will end with this
-- status
pub record IsUpToLine (words : List (List ℕ)) (before after : Objects) (began : Bool) (entries : List Numbered)
    (counts : Counts) (s : Status) : Type 0 where
  pub taken : ReadsUpTo 16777216 before.source after.source
  pub to_the_end : began ≡ true → IsAtEnd after.source
  pub wire : s ≡ status.WireFault → Rose before.wire.faults after.wire.faults
  pub outbox : s ≡ status.OutboxFault → Rose before.outbox.faults after.outbox.faults
  pub unprinted : IsUnprinted s
  pub unbegun : began ≡ false → Unbegun words before after entries s
  pub untouched : began ≡ false → (after.wire ≡ before.wire) × IsLeft before.outbox after.outbox
  pub followed : began ≡ true → Followed words before after s entries (λ c. s ≡ status.Ok → counts ≡ c)

-- A run over these objects, which began or not and has these entries, ended with a status and printed its line. All
-- clauses of the two calls are here.
pub record IsRun (words : List (List ℕ)) (before after : Objects) (line line' : SinkTells) (began : Bool)
    (entries : List Numbered) (s : Status) : Type 0 where
  -- Usage comes exactly where the words have no plan
  pub usage : s ≡ status.Usage → plan_of words ≡ None
  pub not_command : plan_of words ≡ None → (s ≡ status.Usage) ⊎ (s ≡ status.OutOfMemory)
  -- at most 16,777,217 bytes of the configuration were read; all of them, where the run began
  pub taken : ReadsUpTo 16777216 before.source after.source
  pub to_the_end : began ≡ true → IsAtEnd after.source
  -- ConfigRefused comes exactly where the configuration is refused, with its path and cause
  pub config_refused : (path : List ℕ) (cause : Cause) → s ≡ status.ConfigRefused path cause
      → IfSome before.source (λ text. flat_of text ≡ refuse path cause)
  pub refused_text : (text path : List ℕ) (cause : Cause) → before.source ≡ Some text
      → flat_of text ≡ refuse path cause → (s ≡ status.ConfigRefused path cause)
      ⊎ ((s ≡ status.SourceFault) ⊎ ((s ≡ status.Usage) ⊎ (s ≡ status.OutOfMemory)))
  -- PatternRefused comes only where a pattern isn't one, and PatternTooLarge where one holds a brace, of the source's
  -- configuration, or of one that the journal kept, that of its base or of a Config; the path is where the first such
  -- pattern is used first
  pub pattern_refused : (path : List ℕ) → s ≡ status.PatternRefused path
      → IfSome before.source (HasFlawAt IsNoPattern path)
      ⊎ KeptText before.disk.bytes (HasFlawAt IsNoPattern path)
  pub pattern_too_large : (path : List ℕ) → s ≡ status.PatternTooLarge path
      → IfSome before.source (HasFlawAt HoldsBrace path)
      ⊎ KeptText before.disk.bytes (HasFlawAt HoldsBrace path)
  -- NotOurs, Unfinished, Damaged, OutboxBehind, OutboxAhead, OutboxDiffers, and Full at the opening, come exactly where the
  -- journal or the outbox is so, with the place or the numbers; what the journal is stands before what the outbox is, and a
  -- fault of the outbox before the three that name it
  pub barred : began ≡ false → IsBarring s → IsBarred words before s
  pub bars : (plan : Plan) (text : List ℕ) (conf : Conf) (file : List ℕ) (t : Status) → plan_of words ≡ Some plan
      → before.source ≡ Some text → flat_of text ≡ Ok conf → before.disk.bytes ≡ Some file
      → Bars conf plan.max_entries (Some file) before.outbox t → IsSeen before.outbox t
      → (s ≡ t) ⊎ (YieldsTo s ⊎ (NamesOutbox t × (s ≡ status.OutboxFault)))
  -- a fault comes only where the count of its object rose
  pub source : s ≡ status.SourceFault → Rose before.source_faults after.source_faults
  pub wire : s ≡ status.WireFault → Rose before.wire.faults after.wire.faults
  pub disk : s ≡ status.DiskFault → Rose before.disk.faults after.disk.faults
  pub outbox : s ≡ status.OutboxFault → Rose before.outbox.faults after.outbox.faults
  pub print : s ≡ status.PrintFault → Rose line.faults line'.faults
  -- A run that hasn't begun was refused at its opening, left the wire alone, and in the outbox what it held. It has no
  -- entries, or those that it found, by its status. A crash at any moment of it left what one before it might have, or,
  -- where it came so far, entries that it found, behind the journal's base.
  pub not_begun : began ≡ false → IsRefusal s × (after.wire ≡ before.wire) × IsLeft before.outbox after.outbox
  pub has_found : began ≡ false → (entries ≡ []) ⊎ FoundBy words before.source before.disk.bytes entries
  pub has : began ≡ false → HasBy words before.source before.disk.bytes s entries
  pub stopped : began ≡ false → IfSome before.disk.bytes (λ b. LeavesOnly before.disk after.disk
      (λ c. KeepsAsOneOf before.disk c ⊎ KeepsSome (base_in b) (EntersBy words before.source before.disk.bytes s) c))
  pub begun : began ≡ true → IsCourse s
  -- Events taken, replies, closings and entries behind those that the journal kept; reading to the end; the limits of
  -- turns, entries and bytes. A crash at any moment left what one before the run might have, or the entries behind some
  -- of the events, those of the opening among them, or all that the events add whose groups the disk refused, each time
  -- behind the base that the journal had; and unless it did, the disk keeps that base and the run's entries, and each crash
  -- leaves them. The outbox has the lines of one thread that replays the entries, whatever it held; behind a base they stand
  -- behind its lines, which are as they were. The printed line is that of the status, over the counts of the entries, whose
  -- bytes are those of all lines; that of a run that hasn't begun has no counts.
  pub followed : began ≡ true → Followed words before after s entries (λ counts. Prints s counts line line')
  pub printed : began ≡ false → (counts : Counts) → Prints s counts line line'
  pub keeps : began ≡ true → (Rose before.disk.faults after.disk.faults → ⊥)
      → IfSome before.disk.bytes (λ b. IfSome after.disk.bytes (Keeps (base_in b) entries))
  pub told : is_some after.disk.bytes ≡ is_some before.disk.bytes
  -- What is accepted and doesn't fail ends well, if memory is there. A journal is accepted where its base is empty or fits,
  -- the texts and the patterns of its base and of its Configs are accepted, its entries fit, and there is room for the
  -- configuration, if that is to be journaled. An outbox is accepted that holds nothing but as many bytes as the base's lines
  -- have, or that tells its bytes and can be completed.
  pub complete : (plan : Plan) (text : List ℕ) (conf : Conf) (file : List ℕ) (found : Found) (all : List WireEvent)
      → plan_of words ≡ Some plan → before.source ≡ Some text → flat_of text ≡ Ok conf
      → before.disk.bytes ≡ Some file → FoundGroups (Some file) found
      → IsAccepted found → HasRoomAtOpening plan.max_entries conf found
      → All (λ kept_text. All IsPattern (flat kept_text).patterns) (texts_on found.base.text (found_entries found))
      → IsMendable found.base.lines before.outbox (opening_lines conf found)
      → (before.outbox.held ≡ found.base.lines) ⊎ IsSome before.outbox.bytes
      → before.wire.left ≡ Some all → (served (limits_by plan) conf (opening_intake conf found)
      (take plan.turns all)).stop ≡ Some stop.Closed → NoneRose before after line line' → All IsPattern conf.patterns
      → (s ≡ status.Ok) ⊎ ((s ≡ status.OutOfMemory) ⊎ ((path : List ℕ) × (s ≡ status.PatternTooLarge path)))
