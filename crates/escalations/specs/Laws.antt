-- What follows from the definitions of escalations.
use Rattle.std.specs.Prelude.{◌≡◌, ℕ, List, map, filter_map, option_to_list, None}
use Rattle.std.specs.List.{last_or}
use Rattle.std.specs.List.Sorted.{IsStrictlyIncreasing}
use Rattle.zbx_types.specs.Records.{event_of}
use Rattle.zbx_types.specs.declared.conf.Conf.{Conf}
use Rattle.zbx_types.specs.declared.entries.EventId.{EventId}
use Rattle.zbx_types.specs.declared.entries.Rec.{Rec}
use Rattle.escalations.specs.Escalations.{due_records_of, due_records, recovered_records}
use Rattle.escalations.specs.Steps.{ran_of}

-- the steps of an event and action that ran have rising numbers, and of these records just the last one is kept
abbrev pub KeepsLast : EventId → List Rec → List Rec → List ℕ → Type 0
KeepsLast event steps kept action =
    IsStrictlyIncreasing (map (λ ran. ran.step) (filter_map (ran_of event action) steps))
    × (filter_map (ran_of event action) kept ≡ option_to_list (last_or None (filter_map (ran_of event action) steps)))

-- Of each action the last step that ran for a problem decides: with these steps alone the same steps are due, and the same
-- recovery messages are sent.
abbrev pub LastStepsSuffice : Type 0
LastStepsSuffice = (conf : Conf) (problem : Rec) (steps kept : List Rec) (now : ℕ)
    → ((action : List ℕ) → KeepsLast (event_of problem) steps kept action)
    → ((trigger : ℕ) → due_records_of conf trigger problem kept now ≡ due_records_of conf trigger problem steps now)
    × (due_records conf problem kept now ≡ due_records conf problem steps now)
    × (recovered_records conf problem kept now ≡ recovered_records conf problem steps now)
