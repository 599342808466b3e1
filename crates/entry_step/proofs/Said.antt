-- What actions add about a problem: steps of its event, and messages.
use Rattle.std.proofs.Common.{◌≡◌, ℕ, Bool, true, false, List, [], ◌∷◌, ◌++◌, map, Option, Some, None, refl}
use Rattle.std.specs.Prelude.{filter, flat_map, is_some}
use Rattle.zbx_types.specs.Records.{same_event, event_of, tags_of}
use Rattle.zbx_types.specs.declared.actions.Action.{Action}
use Rattle.zbx_types.specs.declared.conf.Conf.{Conf}
use Rattle.zbx_types.specs.declared.entries.EventId.{EventId}
use Rattle.zbx_types.specs.declared.entries.Rec.{Rec}
use Rattle.zbx_types.specs.declared.entries.Rec.TheVariants.{Failure, Problem, Recovery, Step, Message}
use Rattle.zbx_types.specs.declared.entries.Cause2.{Cause2}
use Rattle.zbx_types.specs.declared.entries.Cause2.TheVariants as causes
use Rattle.event_correlation.specs.declared.answer.Closes.{Closes}
use Rattle.maintenance.specs.Suppression.{is_suppressed}
use Rattle.escalations.specs.Escalations.{next_step, records_at, next_records, first_records_of, due_records_of, recovery_records, recovered_records}
use Rattle.escalations.specs.Messages.{message_to, operation_records, step_records, sending_records}
use Rattle.escalations.specs.Steps.{operations_of, last_step}
use Rattle.trigger_state.specs.Stages.{Stage, home}
use Rattle.trigger_state.specs.Problems.{event_in, opens}
use Rattle.trigger_state.specs.declared.problems.Open.{Open}
use Rattle.entry_step.specs.Each.{Each}
use Rattle.entry_step.specs.Due.{IsAbout}
use Rattle.entry_step.specs.Records.{closed_records, ruled_records, last_records}
use Rattle.entry_step.proofs.Members.{each_append, each_cond, each_sub}

pub each_flat_map : {A B : Type 0} (P : B → Type 0) (f : A → List B) (xs : List A) → ((x : A) → Each P (f x)) → Each P (flat_map f xs)
each_flat_map P f [] h = tt
each_flat_map P f (x ∷ xs) h = each_append P (f x) (flat_map f xs) (h x) (each_flat_map P f xs h)

messages_about : (e : EventId) (conf : Conf) (problem : Rec) (recovered : Option ℕ) (action : List ℕ) (step : ℕ) (subject body : List ℕ) (recipients : List (List ℕ)) → Each (IsAbout e) (map (message_to conf problem recovered action step subject body) recipients)
messages_about e conf problem recovered action step subject body [] = tt
messages_about e conf problem recovered action step subject body (r ∷ rs) = (tt, messages_about e conf problem recovered action step subject body rs)

step_about : (conf : Conf) (problem : Rec) (now : ℕ) (action : Action) (step : ℕ) → Each (IsAbout (event_of problem)) (step_records conf problem now action step)
step_about conf problem now action step = (
  refl,
  each_flat_map (IsAbout (event_of problem)) (operation_records conf problem action.name step) (operations_of action step)
      (λ operation. messages_about (event_of problem) conf problem None action.name step operation.subject operation.body operation.recipients),
)

next_about : (conf : Conf) (problem : Rec) (now : ℕ) (action : Action) (o : Option ℕ) → Each (IsAbout (event_of problem)) (records_at conf problem now action o)
next_about conf problem now action None = tt
next_about conf problem now action (Some step) = step_about conf problem now action step

pub due_about : (conf : Conf) (trigger : ℕ) (problem : Rec) (steps : List Rec) (now : ℕ) → Each (IsAbout (event_of problem)) (due_records_of conf trigger problem steps now)
unfolding due_records_of next_records
due_about conf trigger problem steps now =
    let quiet : Bool = is_suppressed conf trigger (tags_of problem) now in
    each_flat_map (IsAbout (event_of problem)) (next_records conf quiet problem steps now) conf.actions
    (λ action. next_about conf problem now action (next_step conf quiet steps problem action now))

recovery_about : (e : EventId) (conf : Conf) (problem : Rec) (steps : List Rec) (now : ℕ) (action : Action) → Each (IsAbout e) (recovery_records conf problem steps now action)
recovery_about e conf problem steps now action =
    each_cond (IsAbout e) (is_some (last_step steps (event_of problem) action.name)) (flat_map (sending_records conf problem now action.name) action.recovery) []
    (each_flat_map (IsAbout e) (sending_records conf problem now action.name) action.recovery
    (λ sending. messages_about e conf problem (Some now) action.name 0 sending.subject sending.body sending.recipients)) tt

-- what is sent as some open problems close
pub closed_about : (e event : EventId) (conf : Conf) (now : ℕ) (os : List Open) → Each (IsAbout e) (flat_map (λ o. recovered_records conf o.problem o.steps now) (filter (λ o. same_event (event_in o) event) os))
closed_about e event conf now os =
    each_flat_map (IsAbout e) (λ o. recovered_records conf o.problem o.steps now) (filter (λ o. same_event (event_in o) event) os)
    (λ o. each_flat_map (IsAbout e) (recovery_records conf o.problem o.steps now) conf.actions (recovery_about e conf o.problem o.steps now))

-- records that are no Problems
abbrev pub IsQuiet : Rec → Type 0
IsQuiet (Problem event now severity suppressed host trigger name tags) = ⊥
IsQuiet (Recovery event by now cause) = Unit {0}
IsQuiet (Failure number host key why) = Unit {0}
IsQuiet (Step event action step now) = Unit {0}
IsQuiet (Message event action step recipient subject body) = Unit {0}

pub about_quiet : (e : EventId) (rs : List Rec) → Each (IsAbout e) rs → Each IsQuiet rs
about_quiet e rs a = each_sub (IsAbout e) IsQuiet rs quiet a
  where
    quiet : (r : Rec) → IsAbout e r → IsQuiet r
    quiet (Step event action step now) is = tt
    quiet (Message event action step recipient subject body) is = tt
    quiet (Failure number host key why) is = tt
    quiet (Problem event now severity suppressed host trigger name tags) is = absurd is
    quiet (Recovery event by now cause) is = tt

-- the ends of problems, and what comes last as one begins
pub closed_quiet : (conf : Conf) (number now : ℕ) (cause : Cause2) (os : EventId → List Open) (events : List EventId) → Each IsQuiet (flat_map (λ e. closed_records conf number now cause (os e) e) events)
closed_quiet conf number now cause os events =
    each_flat_map IsQuiet (λ e. closed_records conf number now cause (os e) e) events
    (λ e. (tt, about_quiet e (flat_map (λ o. recovered_records conf o.problem o.steps now) (filter (λ o. same_event (event_in o) e) (os e))) (closed_about e e conf now (os e))))

pub last_quiet : (conf : Conf) (number now id : ℕ) (problem : Rec) (is_closed : Bool) → Each IsQuiet (last_records conf number now id problem is_closed)
last_quiet conf number now id problem true = (tt, tt)
last_quiet conf number now id problem false = about_quiet (event_of problem) (first_records_of conf id problem now) (due_about conf id problem [] now)

-- what comes behind a new problem
pub begun_quiet : (stage : Stage) (number now : ℕ) (all : ℕ → List Open) (id : ℕ) (problem : Rec) (closes : Closes) → Each IsQuiet (ruled_records stage number now all closes.old ++ last_records stage.conf number now id problem closes.new)
begun_quiet stage number now all id problem closes =
    each_append IsQuiet (ruled_records stage number now all closes.old) (last_records stage.conf number now id problem closes.new)
    (closed_quiet stage.conf number now causes.Correlation (λ e. all (home stage e)) closes.old) (last_quiet stage.conf number now id problem closes.new)

-- such a record opens nothing
pub quiet_opens : (stage : Stage) (id : ℕ) (rs : List Rec) → Each IsQuiet rs → Each (λ r. opens stage id r ≡ false) rs
quiet_opens stage id rs q = each_sub IsQuiet (λ r. opens stage id r ≡ false) rs one q
  where
    one : (r : Rec) → IsQuiet r → opens stage id r ≡ false
    one (Problem event now severity suppressed host trigger name tags) is = absurd is
    one (Recovery event by now cause) is = refl
    one (Failure number host key why) is = refl
    one (Step event action step now) is = refl
    one (Message event action step recipient subject body) is = refl
