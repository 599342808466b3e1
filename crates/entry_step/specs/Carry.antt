-- What a configuration that follows another one goes on with (this project's own).
use Rattle.std.specs.Prelude.{ℕ, not, List, ◌++◌, map, filter}
use Rattle.zbx_types.specs.declared.conf.Conf.{Conf}
use Rattle.zbx_types.specs.declared.entries.Cause2.TheVariants as causes
use Rattle.zbx_types.specs.declared.entries.Numbered.{Numbered}
use Rattle.zbx_types.specs.declared.entries.Rec.{Rec}
use Rattle.preprocess.specs.Carry.{carried_history, carried_marks}
use Rattle.trigger_state.specs.Carry.{is_gone, origin_in, carried as rows_carried}
use Rattle.trigger_state.specs.Problems.{event_in, open_of}
use Rattle.trigger_state.specs.Stages.{Stage}
use Rattle.trigger_state.specs.declared.problems.Open.{Open}
use Rattle.entry_step.specs.Cells.{Cells, ItemKey, TriggerKey, TickKey, opens_in}
use Rattle.entry_step.specs.Due.{by_making}
use Rattle.entry_step.specs.History.{marks_of, history_of}
use Rattle.entry_step.specs.Log.{first_tick}
use Rattle.entry_step.specs.Records.{recovery_of}
use Rattle.entry_step.specs.Start.{Start}

-- the records of a Config: a Recovery of each open problem that is gone, in the order of making
abbrev pub removed : Stage → Conf → ℕ → ℕ → (ℕ → List Open) → List Rec
removed old new number now opens =
    map (λ o. recovery_of number now causes.Removed (event_in o)) (filter (is_gone new) (by_making old opens))

-- what is in force behind a Config: the new configuration, and where the problems come from that are open still
abbrev pub next_stage : Stage → Conf → (ℕ → List Open) → Stage
next_stage old new opens =
    record { conf = new; origins = map origin_in (filter (λ o. not (is_gone new o)) (by_making old opens)) }

-- the cells behind a Config of this moment
abbrev pub carried : Stage → Conf → ℕ → Cells → Cells
carried old new now c (ItemKey id) = record {
  history = carried_history old.conf new now (λ i. (c (ItemKey i)).history) id;
  marks = carried_marks old.conf new (λ i. (c (ItemKey i)).marks) id;
  seen = now;
}
carried old new now c (TriggerKey id) = rows_carried old.conf new (opens_in c) id
carried old new now c TickKey = c TickKey

-- what stands before the entries behind a Config, where these entries stood before it behind a start, and these are all
-- records up to it
abbrev pub next_start : Start → List Numbered → Conf → ℕ → ℕ → List Rec → Start
next_start start log new number now rs = record {
  stage = next_stage start.stage new (open_of start.stage rs);
  number = number;
  moment = now;
  tick = first_tick start log;
  histories = carried_history start.stage.conf new now (history_of start log);
  marks = carried_marks start.stage.conf new (marks_of start log);
  records = rs ++ removed start.stage new number now (open_of start.stage rs);
}
