-- The lines of a log behind a base, and how they go to a sink. `flat` tells the configuration that a text stands for.
use Rattle.std.specs.Prelude.{◌≡◌, ◌≤◌, ◌+◌, ◌-◌, ℕ, List, ◌++◌, length, take, drop, get_or, Some, None, IfSome, unwrap_or, Result, MatchResult}
use Rattle.std.specs.Io.KnownBytes.{Appends}
use Rattle.outside.specs.Others.{first_other}
use Rattle.outside.specs.Tells.{SinkTells}
use Rattle.outside.specs.declared.event.Failed.{Failed}
use Rattle.zbx_types.specs.declared.base.Base.{Base}
use Rattle.zbx_types.specs.declared.conf.Conf.{Conf}
use Rattle.zbx_types.specs.declared.entries.Numbered.{Numbered}
use Rattle.zbx_types.specs.declared.entries.Rec.{Rec}
use Rattle.event_text.specs.Lines.{lines_of}
use Rattle.entry_step.specs.Whole.{whole_replay}
use Rattle.base_laws.specs.Grounds.{start_of}
use Rattle.book_opening.specs.Tally.{tally_of}
use Rattle.book_opening.specs.declared.tally.Tally.{Tally}

-- the records that the entries of a whole log make behind a base
abbrev pub log_records : (List ℕ → Conf) → Base → List Numbered → List Rec
log_records flat base log = whole_replay flat (start_of flat base) log

-- their lines
abbrev pub log_lines : (List ℕ → Conf) → Base → List Numbered → List ℕ
log_lines flat base log = lines_of (log_records flat base log)

-- and what they count, the bytes of the base's lines among those of all lines
abbrev pub log_tally : (List ℕ → Conf) → Base → List Numbered → Tally
log_tally flat base log = tally_of base.lines (log_records flat base log)

-- a sink has these bytes more: in what it tells of them, and in their number
pub record Grew (sink sink' : SinkTells) (more : List ℕ) : Type 0 where
  pub bytes : Appends sink.bytes sink'.bytes more
  pub size : sink'.held ≡ sink.held + length more

-- a sink has some of these bytes more, from the front
abbrev pub GrewByFront : SinkTells → SinkTells → List ℕ → Type 0
GrewByFront sink sink' more = (n : ℕ) × Grew sink sink' (take n more)

-- a sink grew by these bytes, or at an error by some from the front
abbrev pub Writes : SinkTells → SinkTells → List ℕ → Result (Unit {0}) Failed → Type 0
Writes sink sink' more result = MatchResult result (λ _. Grew sink sink' more) (λ _. GrewByFront sink sink' more)

-- how many of an outbox's first bytes stay: those up to the first place at which it holds another byte than lines that
-- stand behind so many of them
abbrev pub stays : ℕ → List ℕ → List ℕ → ℕ
stays before bytes lines = unwrap_or (first_other before lines (drop before bytes)) (length bytes)

-- so many first bytes, as they stand, and behind them lines up to a size
abbrev pub with_lines : ℕ → List ℕ → List ℕ → ℕ → List ℕ
with_lines before bytes lines size = take before bytes ++ take (size - before) lines

-- An outbox has, behind so many bytes, a front of some lines, whatever it held before, where it told that: those bytes are
-- as they were, and of the lines it has at least as much as what it held of them.
pub record HasFront (before : ℕ) (outbox sink : SinkTells) (lines : List ℕ) : Type 0 where
  pub least : before ≤ sink.held
  pub size : sink.held ≤ before + length lines
  pub bytes : IfSome outbox.bytes (λ b. (sink.bytes ≡ Some (with_lines before b lines sink.held)) × (stays before b lines ≤ sink.held))

-- and it has all of them
pub record HasAll (before : ℕ) (outbox sink : SinkTells) (lines : List ℕ) : Type 0 where
  pub size : sink.held ≡ before + length lines
  pub bytes : IfSome outbox.bytes (λ b. (sink.bytes ≡ Some (take before b ++ lines)) × (stays before b lines ≤ sink.held))

-- An outbox that may be completed to lines behind so many bytes: it holds those, and no more bytes than they and the lines
-- have, and the first one that isn't the lines', if there is one, is a 0, as a power cut may leave it, where it tells its
-- bytes.
pub record IsMendable (before : ℕ) (outbox : SinkTells) (lines : List ℕ) : Type 0 where
  pub least : before ≤ outbox.held
  pub enough : outbox.held ≤ before + length lines
  pub zeros : IfSome outbox.bytes (λ b. IfSome (first_other before lines (drop before b)) (λ place. get_or b place 0 ≡ 0))

-- a sink holds what it did, and its count of faults didn't fall
pub record IsLeft (sink sink' : SinkTells) : Type 0 where
  pub bytes : sink'.bytes ≡ sink.bytes
  pub size : sink'.held ≡ sink.held
  pub later : sink.faults ≤ sink'.faults

-- an outbox that holds nothing, and doesn't tell of it
abbrev pub no_outbox : SinkTells
no_outbox = record { bytes = None; held = 0; faults = 0 }
