-- Old problems that close, by the place of the first rule that closes them.
use Rattle.std.specs.Prelude.{ℕ, Bool, ◌==◌, List, map, filter, filter_map, Option, Some, None}
use Rattle.std.specs.List.{position_from}
use Rattle.zbx_types.specs.Records.{event_of}
use Rattle.zbx_types.specs.declared.entries.EventId.{EventId}
use Rattle.zbx_types.specs.declared.entries.Rec.{Rec}
use Rattle.zbx_types.specs.declared.rules.Rule.{Rule}
use Rattle.event_correlation.specs.Closings.{closes_old}
use Rattle.event_correlation.specs.declared.due.Due.{Due}

-- an old problem that closes at the rule at a place, where there is one
abbrev pub due_at : Rec → Option ℕ → Option Due
due_at old None = None
due_at old (Some place) = Some (record { place = place; event = event_of old })

-- the old problems that close, each with the place of the first rule that closes it
abbrev pub due_of : (Rule → Rec → Bool) → List Rule → List Rec → List Due
due_of does_match rules old =
    filter_map (λ problem. due_at problem (position_from (closes_old does_match problem) 0 rules)) old

-- the events of those that close at the rule at a place
abbrev pub events_at : ℕ → List Due → List EventId
events_at place due = map (λ one. one.event) (filter (λ one. one.place == place) due)
