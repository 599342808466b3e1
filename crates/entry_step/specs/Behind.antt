-- What stands behind a log, for the entries that follow it.
use Rattle.std.specs.Prelude.{◌≡◌, List, [], ◌++◌}
use Rattle.zbx_types.specs.declared.entries.Numbered.{Numbered}
use Rattle.entry_step.specs.Start.{Start}
use Rattle.entry_step.specs.Log.{first_tick, last_moment, last_number, Suits}
use Rattle.entry_step.specs.History.{marks_of, history_of}
use Rattle.entry_step.specs.Records.{replay}
use Rattle.entry_step.specs.Represents.{CellsView, Holds}
use Rattle.entry_step.specs.Laws.{IsGood, AreBehind}

-- a log as the start of what follows it: what the searches find in it, and all records up to there
abbrev pub behind : Start → List Numbered → Start
behind start log = record {
  stage = start.stage;
  number = last_number start log;
  moment = last_moment start log;
  tick = first_tick start log;
  histories = history_of start log;
  marks = marks_of start log;
  records = start.records ++ replay start log;
}

-- what newer entries make behind older ones is what they make behind the start that those leave
abbrev pub ReplayBehind : Type 0
ReplayBehind = (start : Start) (newer older : List Numbered)
    → replay start (newer ++ older) ≡ replay start older ++ replay (behind start older) newer

-- behind a log that suits a good start stands a good start
abbrev pub BehindIsGood : Type 0
BehindIsGood = (start : Start) (older : List Numbered) → IsGood start → AreBehind start older → IsGood (behind start older)

-- what holds a log that suits its start holds nothing yet behind what the log leaves
abbrev pub HoldsBehind : Type 0
HoldsBehind = (start : Start) (held : CellsView) (older : List Numbered) → Suits start older → Holds start held older
    → Holds (behind start older) held []

-- newer entries suit what older ones leave where all of them suit the start
abbrev pub SuitsBehind : Type 0
SuitsBehind = (start : Start) (newer older : List Numbered) → Suits start (newer ++ older)
    → Suits (behind start older) newer
