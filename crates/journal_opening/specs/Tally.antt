-- The counts of a run.
use Rattle.std.specs.Prelude.{ℕ, List, length}
use Rattle.zbx_types.specs.declared.base.Base.{Base}
use Rattle.zbx_types.specs.declared.conf.Conf.{Conf}
use Rattle.zbx_types.specs.declared.entries.Numbered.{Numbered}
use Rattle.entry_step.specs.Log.{log_of}
use Rattle.server_words.specs.declared.status.Counts.{Counts}
use Rattle.book_opening.specs.Outgoing.{log_tally}
use Rattle.book_opening.specs.declared.tally.Tally.{Tally}

-- the counts that a run prints
abbrev pub counts_with : ℕ → Tally → Counts
counts_with entries t =
    record { entries = entries; problems = t.problems; recoveries = t.recoveries; messages = t.messages; bytes = t.bytes }

-- the counts of a run with these entries behind a base, where this tells the configuration that a text stands for: the
-- bytes are those of the base's lines too
abbrev pub counts_over : (List ℕ → Conf) → Base → List Numbered → Counts
counts_over flat base entries = counts_with (length entries) (log_tally flat base (log_of entries))
