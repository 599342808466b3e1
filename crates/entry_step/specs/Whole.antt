-- Whole logs, with any number of Configs. A log has the newest entry first, and stands on a start; `flat` tells the
-- configuration that a text stands for.
use Rattle.std.specs.Prelude.{◌≡◌, ◌≤◌, ◌<◌, ℕ, ◌&&◌, Bool, not, List, [], ◌∷◌, ◌++◌, Some}
use Rattle.std.specs.List.{list_any}
use Rattle.zbx_types.specs.Ids.{at_id}
use Rattle.zbx_types.specs.Records.{event_of, tags_of, host_of, trigger_name_of}
use Rattle.zbx_types.specs.declared.conf.Conf.{Conf}
use Rattle.zbx_types.specs.declared.entries.Entry.{Entry}
use Rattle.zbx_types.specs.declared.entries.Entry.TheVariants.{Config, Value, Tick}
use Rattle.zbx_types.specs.declared.entries.Numbered.{Numbered}
use Rattle.zbx_types.specs.declared.entries.Rec.{Rec}
use Rattle.zbx_types.specs.declared.triggers.Trigger.{Trigger}
use Rattle.event_correlation.specs.Laws.{HasTagsOf}
use Rattle.trigger_state.specs.Carry.{same_names, is_gone}
use Rattle.trigger_state.specs.Problems.{open_of}
use Rattle.trigger_state.specs.Stages.{Stage, has_names}
use Rattle.trigger_state.specs.declared.problems.Open.{Open}
use Rattle.entry_step.specs.Carry.{removed, carried, next_start}
use Rattle.entry_step.specs.Cells.{Cells, opens_in, records, after, look}
use Rattle.entry_step.specs.Each.{Each}
use Rattle.entry_step.specs.Log.{last_number}
use Rattle.entry_step.specs.Named.{AreDistinct, host_of as host_of_trigger}
use Rattle.entry_step.specs.Records.{out_of}
use Rattle.entry_step.specs.Start.{Start, first_start}

-- What a log comes to: the start of the entries behind its last Config, these entries, and all records.
pub record Point : Type 0 where
  pub start : Start
  pub since : List Numbered
  pub records : List Rec

-- the records that an entry adds to those before it: a Config recovers the problems that are gone
abbrev pub out_at : (List ℕ → Conf) → Point → Numbered → Entry → List Rec
out_at flat p e (Config now text) = removed p.start.stage (flat text) e.number now (open_of p.start.stage p.records)
out_at flat p e (Value now item time value) = out_of p.start p.since e e.entry p.records
out_at flat p e (Tick now) = out_of p.start p.since e e.entry p.records

-- what a log with one more entry comes to: behind a Config stands a new start
abbrev pub point_with : (List ℕ → Conf) → Point → Numbered → Entry → Point
point_with flat p e (Config now text) = record {
  start = next_start p.start p.since (flat text) e.number now p.records;
  since = [];
  records = p.records ++ out_at flat p e (Config now text);
}
point_with flat p e (Value now item time value) =
    record { start = p.start; since = e ∷ p.since; records = p.records ++ out_at flat p e (Value now item time value) }
point_with flat p e (Tick now) =
    record { start = p.start; since = e ∷ p.since; records = p.records ++ out_at flat p e (Tick now) }

-- what a log comes to on a start
abbrev pub point : (List ℕ → Conf) → Start → List Numbered → Point
point flat start [] = record { start = start; since = []; records = start.records }
point flat start (e ∷ log) = point_with flat (point flat start log) e e.entry

-- all records that the entries of a log make
abbrev pub whole_replay : (List ℕ → Conf) → Start → List Numbered → List Rec
whole_replay flat start [] = []
whole_replay flat start (e ∷ log) = whole_replay flat start log ++ out_at flat (point flat start log) e e.entry

-- the cells that stand for a log
abbrev pub cells_at : Point → Cells
cells_at p = look p.start p.since p.records

-- the records that an entry makes over cells
abbrev pub step_records : (List ℕ → Conf) → Stage → Cells → Numbered → Entry → List Rec
step_records flat stage c e (Config now text) = removed stage (flat text) e.number now (opens_in c)
step_records flat stage c e (Value now item time value) = records stage c e
step_records flat stage c e (Tick now) = records stage c e

-- and the cells behind it
abbrev pub step_cells : (List ℕ → Conf) → Stage → Cells → Numbered → Entry → Cells
step_cells flat stage c e (Config now text) = carried stage (flat text) now c
step_cells flat stage c e (Value now item time value) = after stage c e
step_cells flat stage c e (Tick now) = after stage c e

-- a problem of an entry up to this number is told right: the trigger with this id is there, and has the names of the
-- problem's host and trigger and, in order, those of its tags
pub record IsTold (conf : Conf) (number id : ℕ) (problem : Rec) : Type 0 where
  pub trigger : Trigger
  pub there : at_id conf.triggers id ≡ Some trigger
  pub host : host_of problem ≡ host_of_trigger conf trigger
  pub name : trigger_name_of problem ≡ trigger.name
  pub tags : HasTagsOf trigger problem
  pub upto : (event_of problem).number ≤ number

-- all open problems are told right, each in the cell of its trigger
abbrev pub AreTold : Stage → ℕ → List Rec → Type 0
AreTold stage number rs = (id : ℕ) → Each (λ o. IsTold stage.conf number id o.problem) (open_of stage rs id)

-- a log can stand on a start: no two triggers have the same names, no event of another configuration is of a later entry,
-- and all open problems are told right
pub record FitsStart (start : Start) : Type 0 where
  pub distinct : AreDistinct start.stage.conf
  pub origins : Each (λ origin. origin.event.number ≤ start.number) start.stage.origins
  pub told : AreTold start.stage start.number start.records

-- no two triggers of the configuration of a Config have the same names
abbrev pub HasDistinct : (List ℕ → Conf) → Entry → Type 0
HasDistinct flat (Config now text) = AreDistinct (flat text)
HasDistinct flat (Value now item time value) = Unit {0}
HasDistinct flat (Tick now) = Unit {0}

-- a whole log fits a start: its numbers rise, and no configuration has two triggers of the same names
abbrev pub FitsWhole : (List ℕ → Conf) → Start → List Numbered → Type 0
FitsWhole flat start [] = FitsStart start
FitsWhole flat start (e ∷ log) =
    FitsWhole flat start log × (last_number start log < e.number) × HasDistinct flat e.entry

-- Any entry: over the cells that stand for a whole log, a Value or Tick by what entries make, and a Config by what is
-- removed and carried, gives the records that it adds, and then the cells stand for the log with it.
abbrev pub AnyEntry : Type 0
AnyEntry =
    (flat : List ℕ → Conf) (start : Start) (log : List Numbered) (e : Numbered) → FitsWhole flat start (e ∷ log)
    → let p = point flat start log in
    (step_records flat p.start.stage (cells_at p) e e.entry ≡ out_at flat p e e.entry)
    × (step_cells flat p.start.stage (cells_at p) e e.entry ≡ cells_at (point flat start (e ∷ log)))

-- All open problems of a whole log are told right: so each start is one on which a log can stand.
abbrev pub StaysTold : Type 0
StaysTold =
    (flat : List ℕ → Conf) (start : Start) (log : List Numbered) → FitsWhole flat start log
    → let p = point flat start log in
    AreTold p.start.stage (last_number start log) p.records

-- All records are those of the start and those of the entries.
abbrev pub AllTold : Type 0
AllTold =
    (flat : List ℕ → Conf) (start : Start) (log : List Numbered)
    → (point flat start log).records ≡ start.records ++ whole_replay flat start log

-- On a fresh start a log can stand, where no two triggers have the same names.
abbrev pub FreshFits : Type 0
FreshFits = (conf : Conf) → AreDistinct conf → FitsStart (first_start conf)

-- a trigger has the names of a problem's host and trigger and, in order, those of its tags
abbrev pub goes_with : Conf → Rec → Trigger → Bool
goes_with conf problem trigger =
    has_names conf (host_of problem) (trigger_name_of problem) trigger && same_names (tags_of problem) trigger.tags

-- Where no two triggers have the same names, an open problem is gone where no trigger at all goes with it.
abbrev pub GoneByNames : Type 0
GoneByNames = (conf : Conf) (o : Open) → AreDistinct conf → is_gone conf o ≡ not (list_any (goes_with conf o.problem) conf.triggers)
