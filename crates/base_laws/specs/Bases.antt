-- Bases: the state that a log leaves, in place of its entries, and the start that such a state is.
use Rattle.std.specs.Prelude.{ℕ, ◌+◌, List, [], ◌∷◌, length, map, flat_map, reverse, Option, Some, None, pos}
use Rattle.std.specs.Option.{option_or, unwrap_or, option_map_or}
use Rattle.zbx_types.specs.Ids.{at_id, ids_from}
use Rattle.zbx_types.specs.Numerals.{read_number}
use Rattle.zbx_types.specs.Records.{event_of, host_of, trigger_name_of}
use Rattle.zbx_types.specs.declared.base.Base.{Base}
use Rattle.zbx_types.specs.declared.base.BaseItem.{BaseItem}
use Rattle.zbx_types.specs.declared.base.BaseProblem.{BaseProblem}
use Rattle.zbx_types.specs.declared.base.BaseStep.{BaseStep}
use Rattle.zbx_types.specs.declared.base.BaseValue.{BaseValue}
use Rattle.zbx_types.specs.declared.base.Ran.{Ran}
use Rattle.zbx_types.specs.declared.conf.Conf.{Conf}
use Rattle.zbx_types.specs.declared.entries.Entry.{Entry}
use Rattle.zbx_types.specs.declared.entries.Entry.TheVariants.{Config, Value, Tick}
use Rattle.zbx_types.specs.declared.entries.EventId.{EventId}
use Rattle.zbx_types.specs.declared.entries.Held.{Held}
use Rattle.zbx_types.specs.declared.entries.Held.TheVariants as held
use Rattle.zbx_types.specs.declared.entries.Numbered.{Numbered}
use Rattle.zbx_types.specs.declared.entries.Rec.{Rec}
use Rattle.zbx_types.specs.declared.entries.Rec.TheVariants.{Failure, Problem, Recovery, Step, Message}
use Rattle.zbx_types.specs.declared.entries.Stored.{Stored}
use Rattle.zbx_types.specs.declared.items.Item.{Item}
use Rattle.zbx_types.specs.declared.items.ValueType.{ValueType}
use Rattle.zbx_types.specs.declared.items.ValueType.TheVariants as type
use Rattle.prep_steps.specs.declared.memory.StepMemory.{StepMemory}
use Rattle.value_cache.specs.Cells.{trim}
use Rattle.value_cache.specs.Histories.{oldest_first}
use Rattle.value_cache.specs.Keeps.{keep_of}
use Rattle.event_text.specs.Lines.{lines_of}
use Rattle.event_text.specs.Titles.{held_text}
use Rattle.trigger_state.specs.Problems.{open_of}
use Rattle.trigger_state.specs.Stages.{Stage}
use Rattle.trigger_state.specs.declared.problems.Open.{Open}
use Rattle.trigger_state.specs.declared.stage.Origin.{Origin}
use Rattle.entry_step.specs.Behind.{behind}
use Rattle.entry_step.specs.Due.{by_making}
use Rattle.entry_laws.specs.InForce.{left_by}
use Rattle.entry_step.specs.Log.{tick_of}
use Rattle.entry_step.specs.Records.{replay}
use Rattle.entry_step.specs.Start.{Start}
use Rattle.entry_step.specs.Whole.{point, whole_replay}

-- a value with its text
abbrev pub told_value : Stored → BaseValue
told_value s = record { time = s.time; number = s.number; value = held_text s.value }

-- the value that a text tells of an item whose values have a type: a number, where it writes one, or the text itself
abbrev pub read_held : ValueType → List ℕ → Held
read_held type.Number text = held.Number (unwrap_or (read_number text) (pos 0))
read_held type.Words text = held.Words text

-- the value that a base's value tells of an item whose values have a type
abbrev pub read_value : ValueType → BaseValue → Stored
read_value type v = record { time = v.time; number = v.number; value = read_held type v.value }

-- what a step remembers
abbrev pub told_step : StepMemory → BaseStep
told_step m = record { there = m.there; time = m.time; value = m.value }

-- and read again
abbrev pub read_step : BaseStep → StepMemory
read_step s = record { there = s.there; time = s.time; value = s.value }

-- a Step record without its event
abbrev pub told_ran : Rec → Ran
told_ran (Step event action step now) = record { action = action; step = step; now = now }
told_ran (Failure number host key why) = record { action = []; step = 0; now = 0 }
told_ran (Problem event now severity suppressed host trigger name tags) = record { action = []; step = 0; now = 0 }
told_ran (Recovery event by now cause) = record { action = []; step = 0; now = 0 }
told_ran (Message event action step recipient subject body) = record { action = []; step = 0; now = 0 }

-- the Step record of an event
abbrev pub read_ran : EventId → Ran → Rec
read_ran event r = Step event r.action r.step r.now

-- an open problem with the last step of each action
abbrev pub told_problem : Open → BaseProblem
told_problem o = record { problem = o.problem; ran = map told_ran o.steps }

-- the records that stand for an open problem: its own, and those steps
abbrev pub read_problem : BaseProblem → List Rec
read_problem p = p.problem ∷ map (read_ran (event_of p.problem)) p.ran

-- the records that stand for a base
abbrev pub start_records : Base → List Rec
start_records base = flat_map read_problem base.problems

-- the history of an item that a base has, the latest first
abbrev pub read_history : Option Item → Option BaseItem → List Stored
read_history None kept = []
read_history (Some item) None = []
read_history (Some item) (Some kept) = reverse (map (read_value item.value_type) kept.values)

-- what the steps of an item remember
abbrev pub read_marks : Option BaseItem → List StepMemory
read_marks kept = option_map_or (λ (k : BaseItem). map read_step k.steps) kept []

-- a base as a start, where this is in force
abbrev pub base_start : Stage → Base → Start
base_start stage base = record {
  stage = stage;
  number = base.number;
  moment = base.now;
  tick = base.first_tick;
  histories = λ id. read_history (at_id stage.conf.items id) (at_id base.items id);
  marks = λ id. read_marks (at_id base.items id);
  records = start_records base;
}

-- where a base's problem comes from, as it tells itself: its rank is its place among them
abbrev pub told_origin : ℕ → BaseProblem → Origin
told_origin place p =
    record { event = event_of p.problem; host = host_of p.problem; trigger = trigger_name_of p.problem; rank = place }

-- and where problems come from, the first of which stands at this place
abbrev pub told_origins : ℕ → List BaseProblem → List Origin
told_origins place [] = []
told_origins place (p ∷ ps) = told_origin place p ∷ told_origins (place + 1) ps

-- what is in force behind a base is told by it and its configuration: all its problems are of earlier entries
abbrev pub base_stage : Conf → Base → Stage
base_stage conf base = record { conf = conf; origins = told_origins 0 base.problems }

-- the start that a base is by itself
abbrev pub told_start : Conf → Base → Start
told_start conf base = base_start (base_stage conf base) base

-- what a base tells beside what its start does: the bytes of all lines up to it, the configuration document, and the last Tick
pub record Beside : Type 0 where
  pub lines : ℕ
  pub text : List ℕ
  pub tick : Option ℕ

-- what a base tells so
abbrev pub beside_of : Base → Beside
beside_of base = record { lines = base.lines; text = base.text; tick = base.last_tick }

-- the last Tick of a log, or that before it
abbrev pub last_tick : Option ℕ → List Numbered → Option ℕ
last_tick before [] = before
last_tick before (e ∷ log) = option_or (tick_of e.entry) (last_tick before log)

-- the configuration document in force behind an entry
abbrev pub text_with : List ℕ → Entry → List ℕ
text_with before (Config now text) = text
text_with before (Value now item time value) = before
text_with before (Tick now) = before

-- and behind a log
abbrev pub last_text : List ℕ → List Numbered → List ℕ
last_text before [] = before
last_text before (e ∷ log) = text_with (last_text before log) e.entry

-- what is told beside behind a log that made these records
abbrev pub beside_with : Beside → List Numbered → List Rec → Beside
beside_with beside log made = record {
  lines = beside.lines + length (lines_of made);
  text = last_text beside.text log;
  tick = last_tick beside.tick log;
}

-- what is to be kept of an item: what a later window can ask for, the oldest first, and what its steps remember
abbrev pub told_item : Start → ℕ → BaseItem
told_item start id = record {
  values = map told_value (oldest_first (trim (keep_of start.stage.conf id) start.moment (start.histories id)));
  steps = map told_step (start.marks id);
}

-- the problems that are open, in the order in which they were made
abbrev pub told_problems : Start → List BaseProblem
told_problems start = map told_problem (by_making start.stage (open_of start.stage start.records))

-- the base of a start, beside which this is told
unfoldable pub base_at : Beside → Start → Base
base_at beside start = record {
  number = start.number;
  now = start.moment;
  first_tick = start.tick;
  last_tick = beside.tick;
  lines = beside.lines;
  text = beside.text;
  items = map (told_item start) (ids_from 1 start.stage.conf.items);
  problems = told_problems start;
}

-- The base of a log under one configuration: that of what its entries leave.
abbrev pub base_of : Beside → Start → List Numbered → Base
base_of beside start log = base_at (beside_with beside log (replay start log)) (behind start log)

-- And of a whole log.
abbrev pub whole_base : (List ℕ → Conf) → Beside → Start → List Numbered → Base
whole_base flat beside start log =
    base_at (beside_with beside log (whole_replay flat start log)) (left_by (point flat start log))
