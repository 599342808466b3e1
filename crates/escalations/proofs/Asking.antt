-- Whether the trigger is suppressed matters only where an action pauses for it.
use Rattle.std.proofs.Common.{◌≡◌, ◌∙◌, ℕ, Bool, true, false, not, ◌&&◌, List, [], ◌∷◌, None, refl, sym, ap}
use Rattle.std.specs.Prelude.{flat_map, if◌then◌else◌}
use Rattle.std.proofs.lemmas.Bool.{or_parts, false≢true}
use Rattle.zbx_types.specs.Records.{event_of}
use Rattle.zbx_types.specs.declared.actions.Action.{Action}
use Rattle.zbx_types.specs.declared.conf.Conf.{Conf}
use Rattle.zbx_types.specs.declared.entries.Rec.{Rec}
use Rattle.escalations.specs.Conditions.{is_matched}
use Rattle.escalations.specs.Escalations.{records_at, next_step, next_records}
use Rattle.escalations.specs.Steps.{last_step, step_due}
use Rattle.escalations.specs.Triggers.{some_pauses}

same_part : (pauses matches one other : Bool) → (pauses && matches) ≡ false → (matches && not (pauses && one)) ≡ (matches && not (pauses && other))
same_part true true one other h = absurd (false≢true (sym h))
same_part true false one other h = refl
same_part false matches one other h = refl

same_next : (conf : Conf) (one other : Bool) (problem : Rec) (steps : List Rec) (now : ℕ) (action : Action) → (action.pause_suppressed && is_matched conf action problem) ≡ false → next_records conf one problem steps now action ≡ next_records conf other problem steps now action
unfolding next_records next_step
same_next conf one other problem steps now action h =
    ap (λ runs. records_at conf problem now action (if runs then step_due action now (last_step steps (event_of problem) action.name) else None))
    (same_part action.pause_suppressed (is_matched conf action problem) one other h)

same_records : (conf : Conf) (one other : Bool) (problem : Rec) (steps : List Rec) (now : ℕ) (actions : List Action) → some_pauses conf problem actions ≡ false → flat_map (next_records conf one problem steps now) actions ≡ flat_map (next_records conf other problem steps now) actions
same_records conf one other problem steps now [] h = refl
same_records conf one other problem steps now (action ∷ rest) h =
    let here = same_next conf one other problem steps now action (or_parts _ _ h).0 in
    let behind = same_records conf one other problem steps now rest (or_parts _ _ h).1 in
    rw (here, behind) refl

same_asked : (conf : Conf) (problem : Rec) (steps : List Rec) (now : ℕ) (actions : List Action) (pauses quiet : Bool) → some_pauses conf problem actions ≡ pauses → flat_map (next_records conf (pauses && quiet) problem steps now) actions ≡ flat_map (next_records conf quiet problem steps now) actions
same_asked conf problem steps now actions true quiet h = refl
same_asked conf problem steps now actions false quiet h = same_records conf false quiet problem steps now actions h

pub asked_once : (conf : Conf) (problem : Rec) (steps : List Rec) (now : ℕ) (actions : List Action) (quiet : Bool) → flat_map (next_records conf (some_pauses conf problem actions && quiet) problem steps now) actions ≡ flat_map (next_records conf quiet problem steps now) actions
asked_once conf problem steps now actions quiet = same_asked conf problem steps now actions (some_pauses conf problem actions) quiet refl
