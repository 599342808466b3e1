-- What the entries leave with which a run begins, and what the outbox holds beside their lines.
use Rattle.std.specs.Prelude.{◌≡◌, ◌≤◌, ◌<◌, ◌+◌, ◌-◌, ℕ, List, [], ◌∷◌, length, map, drop, Option, IfSome, unwrap_or, ⊤}
use Rattle.zbx_types.specs.declared.base.Base.{Base}
use Rattle.zbx_types.specs.declared.conf.Conf.{Conf}
use Rattle.zbx_types.specs.declared.entries.Numbered.{Numbered}
use Rattle.zbx_types.specs.declared.entries.Rec.{Rec}
use Rattle.outside.specs.Others.{first_other}
use Rattle.outside.specs.Tells.{SinkTells}
use Rattle.event_text.specs.Lines.{lines_of}
use Rattle.value_cache.specs.Tokens.{CacheId}
use Rattle.trigger_state.specs.Stages.{Stage, first_stage}
use Rattle.base_laws.specs.Bases.{base_stage, told_start}
use Rattle.entry_laws.specs.InForce.{AllDistinct, FitsLog, IsFull, config_texts, texts_on}
use Rattle.entry_step.specs.InForce.{HoldsAt}
use Rattle.entry_step.specs.Represents.{Holds}
use Rattle.entry_step.specs.Start.{first_start}
use Rattle.entry_step.specs.Whole.{point}
use Rattle.book_opening.specs.declared.errors.BookError.{BookError}
use Rattle.book_opening.specs.declared.errors.BookError.TheVariants.{OutboxBehind, OutboxAhead, OutboxDiffers, OutboxFault, OutOfMemory}
use Rattle.book_opening.specs.declared.kept.Reached.{Reached}
use Rattle.book_opening.specs.declared.opening.Replayed.{Replayed}
use Rattle.book_opening.specs.declared.present.Present.{Present}
use Rattle.base_laws.specs.Grounds.{IsBase, start_of}
use Rattle.book_opening.specs.Outgoing.{log_records, log_tally}
use Rattle.book_opening.specs.Tally.{tally_of}

-- a cache without rows
abbrev pub no_cache : CacheId
no_cache = record { rows = [] }

-- the configurations of the Configs among these entries, in their order, each as it is made ready
abbrev pub epochs_of : (List ℕ → Conf) → List Numbered → List Stage
epochs_of flat entries = map (λ text. first_stage (flat text)) (config_texts entries)

-- all configurations of a run: before these, where its base isn't empty, that of the base's text
abbrev pub run_epochs : (List ℕ → Conf) → Base → List Numbered → List Stage
run_epochs flat base entries = map (λ text. first_stage (flat text)) (texts_on base.text entries)

-- a whole log behind a base can be replayed: no configuration has two triggers of the same names, a run can begin with the
-- base, the numbers go on by one from its own, and each entry fits behind those before it
pub record IsSound (flat : List ℕ → Conf) (base : Base) (log : List Numbered) : Type 0 where
  pub distinct : AllDistinct flat
  pub base_is : IsBase flat base
  pub full : IsFull (start_of flat base) log
  pub fits : FitsLog flat (start_of flat base) log

-- what is in force behind a whole log, and the cells
pub record IsPresent (flat : List ℕ → Conf) (base : Base) (log : List Numbered) (now : Present) : Type 0 where
  pub stage : now.ready ≡ (point flat (start_of flat base) log).start.stage
  pub cells : HoldsAt (point flat (start_of flat base) log) now.cells

-- what was in force behind any log, and the cells, still are
abbrev pub IsStill : Present → Present → Type 0
IsStill before after =
    (flat : List ℕ → Conf) (base : Base) (log : List Numbered) → IsPresent flat base log before
    → IsPresent flat base log after

-- what is in force and the cells before entries are replayed, where this is the first configuration of a run with a base of
-- this text: the cells of nothing, or those of the base
abbrev pub IsFirst : List ℕ → Base → Stage → Present → Type 0
IsFirst [] base first now = (now.ready ≡ first) × Holds (first_start first.conf) now.cells []
IsFirst (byte ∷ text) base first now =
    (now.ready ≡ base_stage first.conf base) × Holds (told_start first.conf base) now.cells []

-- the entries that are replayed then: behind an empty base all but the first one, which brings that configuration
abbrev pub replayed_of : List ℕ → List Numbered → List Numbered
replayed_of [] entries = drop 1 entries
replayed_of (byte ∷ text) entries = entries

-- the first place at which an outbox holds another byte than lines behind so many bytes, if there is one, where it tells its
-- bytes; in any case it holds a byte there, and the lines have one
pub record IsCompared (before : ℕ) (outbox : SinkTells) (lines : List ℕ) (other : Option ℕ) : Type 0 where
  pub place : IfSome outbox.bytes (λ b. other ≡ first_other before lines (drop before b))
  pub within : IfSome other (λ place. (before ≤ place) × (place < outbox.held) × (place < before + length lines))

-- the counts of records whose lines stand behind so many bytes, what the outbox holds beside these lines, and those that it
-- lacks, where it is cut at the first other byte
pub record IsRecorded (before : ℕ) (records : List Rec) (outbox : SinkTells) (r : Replayed) : Type 0 where
  pub tally : r.tally ≡ tally_of before records
  pub compared : IsCompared before outbox (lines_of records) r.other
  pub missing : r.missing ≡ drop (unwrap_or r.other outbox.held - before) (lines_of records)

-- that of a whole log behind a base, with what is in force behind it and the cells
pub record IsReplayed (flat : List ℕ → Conf) (base : Base) (log : List Numbered) (outbox : SinkTells)
    (r : Replayed) : Type 0 where
  pub present : IsPresent flat base log r.present
  pub recorded : IsRecorded base.lines (log_records flat base log) outbox r

-- what a whole log behind a base leaves without an outbox: what is in force behind it, the cells, and the counts of its
-- records
pub record IsReached (flat : List ℕ → Conf) (base : Base) (log : List Numbered) (r : Reached) : Type 0 where
  pub present : IsPresent flat base log r.present
  pub tally : r.tally ≡ log_tally flat base log

-- why a replay ends: the outbox failed, or memory was refused
abbrev pub IsRefused : BookError → Type 0
IsRefused (OutboxBehind held base) = ⊥
IsRefused (OutboxAhead held lines) = ⊥
IsRefused (OutboxDiffers at) = ⊥
IsRefused OutboxFault = ⊤
IsRefused OutOfMemory = ⊤
