-- Open problems by the names of their trigger, inside an entry.
use Rattle.std.specs.Prelude.{◌≡◌, ℕ, List, ◌∷◌, ◌++◌, map, Some}
use Rattle.zbx_types.specs.Ids.{at_id}
use Rattle.zbx_types.specs.declared.conf.Conf.{Conf}
use Rattle.zbx_types.specs.declared.entries.Numbered.{Numbered}
use Rattle.zbx_types.specs.declared.entries.Rec.{Rec}
use Rattle.zbx_types.specs.declared.triggers.Trigger.{Trigger}
use Rattle.trigger_state.specs.Stages.{first_stage}
use Rattle.trigger_state.specs.Problems.{open_of}
use Rattle.entry_step.specs.History.{memory_of}
use Rattle.entry_step.specs.Log.{IsRising}
use Rattle.entry_step.specs.Making.{records_upto}
use Rattle.entry_step.specs.Named.{open_problems, host_of, AreDistinct}
use Rattle.entry_step.specs.Records.{triggers_at, replay}
use Rattle.entry_step.specs.Start.{first_start}

-- the open problems of a trigger are the Problem records with its names that no Recovery names at all
abbrev pub AreByNames : Conf → List Rec → Type 0
AreByNames conf rs = (id : ℕ) (trigger : Trigger) → at_id conf.triggers id ≡ Some trigger
    → map (λ o. o.problem) (open_of (first_stage conf) rs id) ≡ open_problems rs (host_of conf trigger) trigger.name

-- Inside the next entry of a log whose numbers rise, at each of the triggers that it evaluates and behind the last, the
-- search over all records made so far finds the open problems of a trigger by its names.
abbrev pub OpenInside : Type 0
OpenInside =
    (conf : Conf) (log : List Numbered) (e : Numbered) (ids rest : List ℕ) → IsRising (first_start conf) (e ∷ log)
    → AreDistinct conf → triggers_at conf (memory_of (first_start conf) log) e.number e.entry ≡ ids ++ rest
    → AreByNames conf (records_upto (first_start conf) log e (replay (first_start conf) log) ids)
