-- Actions.
use Rattle.std.specs.Prelude.{ℕ, Bool, true, ◌||◌, ◌==◌, nat_le, List, [], ◌∷◌, Option, Result, Ok, codes}
use Rattle.zbx_types.specs.declared.causes.Cause.TheVariants.{BadMember, TooMany}
use Rattle.zbx_types.specs.declared.tag_tests.Matching.{Matching}
use Rattle.zbx_types.specs.declared.tag_tests.Matching.TheVariants as matches
use Rattle.zbx_types.specs.declared.actions.SeverityOp.{SeverityOp}
use Rattle.zbx_types.specs.declared.actions.SeverityOp.TheVariants as ops
use Rattle.zbx_types.specs.declared.actions.Action.{Action}
use Rattle.zbx_types.specs.declared.actions.ActionCond.{ActionCond}
use Rattle.zbx_types.specs.declared.actions.ActionCond.TheVariants as conds
use Rattle.zbx_types.specs.declared.actions.Operation.{Operation}
use Rattle.zbx_types.specs.declared.actions.Sending.{Sending}
use Rattle.json_form.specs.Faults.{Fault, ◌>>=◌}
use Rattle.json_form.specs.Places.{Place, Object, ◌▸◌, an_object, text, truth, word, given_or, passing, number_between}
use Rattle.json_form.specs.Lists.{list_of, named_list, at_most}
use Rattle.json_form.specs.Wording.{first_of_word}
use Rattle.config_read.specs.declared.actions.ActionCondKind.{ActionCondKind}
use Rattle.config_read.specs.declared.actions.ActionCondKind.TheVariants as kinds
use Rattle.config_read.specs.Words.{is_title, new_name, matching as matching_word}
use Rattle.config_read.specs.Ranges.{step_duration_of, operation_duration_of, one_to_16}
use Rattle.config_read.specs.Rules.{tag_test_of}

-- what a condition is about
abbrev pub action_cond_kind : List ℕ → Option ActionCondKind
action_cond_kind = first_of_word (
    (codes "severity", kinds.Severity) ∷ (codes "host", kinds.Host) ∷ (codes "group", kinds.Group) ∷ (codes "trigger_name", kinds.TriggerName) ∷ (codes "tag", kinds.Tag)
    ∷ (codes "tag_value", kinds.TagValue) ∷ (codes "suppressed", kinds.Suppressed) ∷ (codes "not_suppressed", kinds.NotSuppressed) ∷ [])

-- how a severity is compared
abbrev pub severity_op : List ℕ → Option SeverityOp
severity_op = first_of_word ((codes "ge", ops.Ge) ∷ (codes "le", ops.Le) ∷ (codes "eq", ops.Eq) ∷ [])

-- a comparison of the severity
unfoldable pub severity_of : Object → Result ActionCond Fault
severity_of o = do
  op ← word severity_op (o ▸ codes "op")
  value ← number_between 0 4294967295 (o ▸ codes "value")
  Ok (conds.Severity op value)

-- the members of a condition of this kind
unfoldable pub action_cond_parts : ActionCondKind → Object → Result ActionCond Fault
action_cond_parts kinds.Severity o = severity_of o
action_cond_parts kinds.Host o = text (o ▸ codes "host") >>= λ host. Ok (conds.Host host)
action_cond_parts kinds.Group o = text (o ▸ codes "group") >>= λ group. Ok (conds.Group group)
action_cond_parts kinds.TriggerName o = text (o ▸ codes "text") >>= λ part. Ok (conds.TriggerName part)
action_cond_parts kinds.Tag o = text (o ▸ codes "tag") >>= λ tag. Ok (conds.Tag tag)
action_cond_parts kinds.TagValue o = tag_test_of o >>= λ test. Ok (conds.TagValue test)
action_cond_parts kinds.Suppressed o = Ok conds.Suppressed
action_cond_parts kinds.NotSuppressed o = Ok conds.NotSuppressed

-- a condition of an action
unfoldable pub action_cond_of : Place → Result ActionCond Fault
action_cond_of at = do
  o ← an_object at
  kind ← word action_cond_kind (o ▸ codes "kind")
  action_cond_parts kind o

-- up to 16 conditions
unfoldable pub action_conds_of : Place → Result (List ActionCond) Fault
action_conds_of at = at_most 16 BadMember at >>= λ few. list_of action_cond_of few

-- 1 to 16 recipients
unfoldable pub recipients_of : Place → Result (List (List ℕ)) Fault
recipients_of at = one_to_16 at >>= λ few. list_of text few

-- to whom what is sent
unfoldable pub sending_of : Object → Result Sending Fault
sending_of o = do
  recipients ← recipients_of (o ▸ codes "recipients")
  subject ← text (o ▸ codes "subject")
  body ← text (o ▸ codes "body")
  Ok (record { recipients = recipients; subject = subject; body = body })

-- 0 for no last step, or no step before the first
abbrev pub is_last : ℕ → ℕ → Bool
is_last from to = to == 0 || nat_le from to

-- the first and the last step that an operation belongs to
unfoldable pub steps_of : Object → Result (ℕ × ℕ) Fault
steps_of o = do
  from ← given_or 1 (number_between 1 1000000) (o ▸ codes "from")
  to ← given_or 1 (number_between 0 4294967295) (o ▸ codes "to")
  last ← passing (is_last from) (o ▸ codes "to") to
  Ok (from, last)

-- an operation of an escalation
unfoldable pub operation_of : Place → Result Operation Fault
operation_of at = do
  o ← an_object at
  steps ← steps_of o
  duration ← given_or 0 operation_duration_of (o ▸ codes "duration")
  sending ← sending_of o
  Ok (record { from = steps.0; to = steps.1; duration = duration; recipients = sending.recipients; subject = sending.subject; body = sending.body })

-- a recovery operation
unfoldable pub recovery_of : Place → Result Sending Fault
recovery_of at = do
  o ← an_object at
  sending_of o

-- when it is taken: how its conditions are joined, and the conditions
unfoldable pub occasion_of : Object → Result (Matching × List ActionCond) Fault
occasion_of o = do
  matching ← given_or matches.And (word matching_word) (o ▸ codes "match")
  conditions ← action_conds_of (o ▸ codes "conditions")
  Ok (matching, conditions)

-- how long its steps last, and whether they wait while a problem is suppressed
unfoldable pub pace_of : Object → Result (ℕ × Bool) Fault
pace_of o = do
  duration ← given_or 3600 step_duration_of (o ▸ codes "step_duration")
  pause ← given_or true truth (o ▸ codes "pause_suppressed")
  Ok (duration, pause)

-- its operations, and those when a problem closes
unfoldable pub work_of : Object → Result (List Operation × List Sending) Fault
work_of o = do
  operations ← list_of operation_of (o ▸ codes "operations")
  recovery ← list_of recovery_of (o ▸ codes "recovery")
  Ok (operations, recovery)

-- an action whose name isn't taken
unfoldable pub action_of : List (List ℕ) → Place → Result Action Fault
action_of taken at = do
  o ← an_object at
  name ← new_name is_title taken (o ▸ codes "name")
  occasion ← occasion_of o
  pace ← pace_of o
  work ← work_of o
  Ok (record { name = name; matching = occasion.0; conditions = occasion.1; step_duration = pace.0; pause_suppressed = pace.1; operations = work.0; recovery = work.1 })

-- actions of distinct names, 64 at most
unfoldable pub actions_of : Object → Result (List Action) Fault
actions_of o = at_most 64 TooMany (o ▸ codes "actions") >>= λ few. named_list (λ (a : Action). a.name) action_of [] few
