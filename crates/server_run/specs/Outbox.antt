-- What an outbox has of lines that stand behind the lines of a base.
use Rattle.std.specs.Prelude.{ℕ, List}
use Rattle.outside.specs.Tells.{SinkTells}
use Rattle.book_opening.specs.Outgoing.{HasFront, HasAll}
use Rattle.server_run.specs.Statuses.{Extent, no_lines, all_lines, front_lines}

-- so much of these lines is in an outbox behind so many bytes, which are as they were, whatever it held before, where it told
-- that
abbrev pub LinesAre : Extent → ℕ → SinkTells → SinkTells → List ℕ → Type 0
LinesAre no_lines before outbox outbox' lines = ⊥
LinesAre all_lines before outbox outbox' lines = HasAll before outbox outbox' lines
LinesAre front_lines before outbox outbox' lines = HasFront before outbox outbox' lines
