-- Open problems by the names of their trigger, over all records.
use Rattle.std.specs.Prelude.{◌≡◌, ℕ, ◌&&◌, Bool, true, false, not, List, map, filter, Some}
use Rattle.std.specs.List.{list_any}
use Rattle.zbx_types.specs.Hosts.{host_name}
use Rattle.zbx_types.specs.Ids.{at_id}
use Rattle.zbx_types.specs.declared.conf.Conf.{Conf}
use Rattle.zbx_types.specs.declared.triggers.Trigger.{Trigger}
use Rattle.zbx_types.specs.declared.entries.Numbered.{Numbered}
use Rattle.zbx_types.specs.declared.entries.Rec.{Rec}
use Rattle.zbx_types.specs.declared.entries.Rec.TheVariants.{Failure, Problem, Recovery, Step, Message}
use Rattle.std.specs.Str.{bytes_eq}
use Rattle.entry_step.specs.Log.{IsRising}
use Rattle.zbx_types.specs.Records.{event_of}
use Rattle.trigger_state.specs.Problems.{recovers, open_of}
use Rattle.entry_step.specs.Records.{replay}
use Rattle.entry_step.specs.Start.{first_start}
use Rattle.trigger_state.specs.Stages.{first_stage}

-- a record is a Problem with these names of host and trigger
abbrev pub is_named : List ℕ → List ℕ → Rec → Bool
is_named host trigger (Problem event now severity suppressed h t name tags) = bytes_eq h host && bytes_eq t trigger
is_named host trigger (Failure number h key why) = false
is_named host trigger (Recovery event by now cause) = false
is_named host trigger (Step event action step now) = false
is_named host trigger (Message event action step recipient subject body) = false

-- the open problems of the trigger with these names: the Problem records with them whose event no Recovery names
abbrev pub open_problems : List Rec → List ℕ → List ℕ → List Rec
open_problems rs host trigger = filter (λ r. is_named host trigger r && not (list_any (recovers (event_of r)) rs)) rs

-- the name of a trigger's host
abbrev pub host_of : Conf → Trigger → List ℕ
host_of conf trigger = host_name (at_id conf.hosts trigger.host)

-- no two triggers have the same names
abbrev pub AreDistinct : Conf → Type 0
AreDistinct conf = (i j : ℕ) (a b : Trigger) → at_id conf.triggers i ≡ Some a → at_id conf.triggers j ≡ Some b
    → bytes_eq (host_of conf a) (host_of conf b) ≡ true → bytes_eq a.name b.name ≡ true → i ≡ j

-- On a replay, the open problems of a trigger are those with its names that no Recovery names at all.
abbrev pub OpenByNames : Type 0
OpenByNames =
    (conf : Conf) (log : List Numbered) → IsRising (first_start conf) log → AreDistinct conf → (id : ℕ) (trigger : Trigger)
    → at_id conf.triggers id ≡ Some trigger
    → map (λ o. o.problem) (open_of (first_stage conf) (replay (first_start conf) log) id) ≡ open_problems (replay (first_start conf) log)
    (host_of conf trigger) trigger.name
