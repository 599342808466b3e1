-- What stood before the entries of a log.
use Rattle.std.specs.Prelude.{ℕ, pos, List, [], Option, None}
use Rattle.std.specs.Option.{option_map_or}
use Rattle.zbx_types.specs.Ids.{at_id}
use Rattle.zbx_types.specs.declared.entries.Rec.{Rec}
use Rattle.zbx_types.specs.declared.entries.Stored.{Stored}
use Rattle.prep_steps.specs.declared.memory.StepMemory.{StepMemory}
use Rattle.preprocess.specs.Cells.{no_marks}
use Rattle.zbx_types.specs.declared.conf.Conf.{Conf}
use Rattle.trigger_state.specs.Stages.{Stage, first_stage}

-- What is in force at the entries of a log, and what stood before them: the number and the moment of the last entry, the
-- moment of the first Tick, the history of each item and what its steps remember, and all records up to there.
pub record Start : Type 0 where
  pub stage : Stage
  pub number : ℕ
  pub moment : ℕ
  pub tick : Option ℕ
  pub histories : ℕ → List Stored
  pub marks : ℕ → List StepMemory
  pub records : List Rec

-- nothing stood before: no step remembers anything
abbrev pub fresh : Stage → Start
fresh stage = record {
  stage = stage;
  number = 0;
  moment = 0;
  tick = None;
  histories = λ id. [];
  marks = λ id. option_map_or no_marks (at_id stage.conf.items id) [];
  records = [];
}

-- and the configuration is the only one
abbrev pub first_start : Conf → Start
first_start conf = fresh (first_stage conf)

-- a configuration of nothing
abbrev pub no_conf : Conf
no_conf = record {
  text = [];
  utc_offset = pos 0;
  hosts = [];
  items = [];
  triggers = [];
  correlations = [];
  maintenances = [];
  actions = [];
  patterns = [];
  pattern_paths = [];
}

-- nothing stood before, and no configuration is in force: so begins each log whose first entry is a Config
abbrev pub nothing : Start
nothing = first_start no_conf
