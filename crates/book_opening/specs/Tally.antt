-- Counts of records.
use Rattle.std.specs.Prelude.{ℕ, ◌+◌, min, Bool, true, false, List, length, count_by}
use Rattle.zbx_types.specs.declared.entries.Rec.{Rec}
use Rattle.zbx_types.specs.declared.entries.Rec.TheVariants.{Failure, Problem, Recovery, Step, Message}
use Rattle.event_text.specs.Lines.{lines_of}
use Rattle.book_opening.specs.declared.tally.Counted.{Counted}
use Rattle.book_opening.specs.declared.tally.Counted.TheVariants as kinds
use Rattle.book_opening.specs.declared.tally.Tally.{Tally}

-- a count, or 2^64 - 1 where it is above
abbrev pub capped : ℕ → ℕ
capped n = min n 18446744073709551615

-- a record is of the kind that is counted
unfoldable pub is_counted : Counted → Rec → Bool
is_counted kind (Problem event now severity suppressed host trigger name tags) = is_problems kind
  where
    is_problems : Counted → Bool
    is_problems kinds.Problems = true
    is_problems kinds.Recoveries = false
    is_problems kinds.Messages = false
is_counted kind (Recovery event by now cause) = is_recoveries kind
  where
    is_recoveries : Counted → Bool
    is_recoveries kinds.Problems = false
    is_recoveries kinds.Recoveries = true
    is_recoveries kinds.Messages = false
is_counted kind (Message event action step recipient subject body) = is_messages kind
  where
    is_messages : Counted → Bool
    is_messages kinds.Problems = false
    is_messages kinds.Recoveries = false
    is_messages kinds.Messages = true
is_counted kind (Failure number host key why) = false
is_counted kind (Step event action step now) = false

-- what a list of records counts, whose lines stand behind so many bytes
unfoldable pub tally_of : ℕ → List Rec → Tally
tally_of before rs = record {
  problems = capped (count_by (is_counted kinds.Problems) rs);
  recoveries = capped (count_by (is_counted kinds.Recoveries) rs);
  messages = capped (count_by (is_counted kinds.Messages) rs);
  bytes = capped (before + length (lines_of rs));
}

-- a tally with more records
unfoldable pub tally_with : Tally → List Rec → Tally
tally_with t rs = record {
  problems = capped (t.problems + count_by (is_counted kinds.Problems) rs);
  recoveries = capped (t.recoveries + count_by (is_counted kinds.Recoveries) rs);
  messages = capped (t.messages + count_by (is_counted kinds.Messages) rs);
  bytes = capped (t.bytes + length (lines_of rs));
}
