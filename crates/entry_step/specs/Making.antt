-- The order of making is the order of the records.
use Rattle.std.specs.Prelude.{◌≡◌, Bool, true, false, not, ◌&&◌, ℕ, List, [], ◌∷◌, ◌++◌, if◌then◌else◌}
use Rattle.std.specs.List.{list_any}
use Rattle.zbx_types.specs.Records.{event_of}
use Rattle.zbx_types.specs.declared.conf.Conf.{Conf}
use Rattle.zbx_types.specs.declared.entries.Numbered.{Numbered}
use Rattle.zbx_types.specs.declared.entries.Rec.{Rec}
use Rattle.zbx_types.specs.declared.entries.Rec.TheVariants.{Failure, Problem, Recovery, Step, Message}
use Rattle.trigger_state.specs.Stages.{Stage, first_stage}
use Rattle.trigger_state.specs.Problems.{recovers, opened, open_of}
use Rattle.trigger_state.specs.declared.problems.Open.{Open}
use Rattle.entry_step.specs.Due.{by_making}
use Rattle.entry_step.specs.History.{memory_of, history_of}
use Rattle.entry_step.specs.Log.{first_tick, IsRising}
use Rattle.entry_step.specs.Occasions.{occasion_of}
use Rattle.entry_step.specs.Records.{evaluated, failures_at, phase_over, triggers_at, replay}
use Rattle.entry_step.specs.Start.{Start, first_start}

-- a record makes a problem
abbrev pub is_problem : Rec → Bool
is_problem (Problem event now severity suppressed host trigger name tags) = true
is_problem (Failure number host key why) = false
is_problem (Recovery event by now cause) = false
is_problem (Step event action step now) = false
is_problem (Message event action step recipient subject body) = false

-- the open problems in the order of their records: each Problem record whose event no later Recovery names
abbrev pub open_any : Stage → List Rec → List Open
open_any stage [] = []
open_any stage (r ∷ rs) =
    if is_problem r && not (list_any (recovers (event_of r)) rs) then opened stage r rs ∷ open_any stage rs else open_any stage rs

-- what is open behind records stands in the order of making as it stands in them
abbrev pub IsAsRecorded : Stage → List Rec → Type 0
IsAsRecorded stage rs = by_making stage (open_of stage rs) ≡ open_any stage rs

-- the records inside an entry, behind this log and these records: its failures, and then what these triggers make
abbrev pub records_upto : Start → List Numbered → Numbered → List Rec → List ℕ → List Rec
records_upto start log e rs ids =
    (rs ++ failures_at start.stage.conf (memory_of start log) e.number e.entry)
    ++ phase_over start.stage
    (evaluated start.stage (occasion_of (first_tick start log) e.number e.entry) (history_of start (e ∷ log)))
    (rs ++ failures_at start.stage.conf (memory_of start log) e.number e.entry) ids

-- The order of making is the order of the records: behind each log whose numbers rise, and inside its next entry at each
-- of the triggers that it evaluates, and behind the last.
abbrev pub MakingIsOrder : Type 0
MakingIsOrder =
    (conf : Conf) (log : List Numbered) → IsRising (first_start conf) log
    → IsAsRecorded (first_stage conf) (replay (first_start conf) log)
    × ((e : Numbered) (ids rest : List ℕ) → IsRising (first_start conf) (e ∷ log)
    → triggers_at conf (memory_of (first_start conf) log) e.number e.entry ≡ ids ++ rest
    → IsAsRecorded (first_stage conf) (records_upto (first_start conf) log e (replay (first_start conf) log) ids))
