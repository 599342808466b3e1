-- What a trigger does where it is evaluated (the Zabbix 6.0 manual, "Configuring a trigger" and "Trigger dependencies"). A
-- value of an expression is None where it is unknown.
use Rattle.std.specs.Prelude.{ℕ, Bool, true, false, not, ◌&&◌, ◌||◌, List, [], ◌∷◌, map, filter, Option, Some, None, if◌then◌else◌, ℤ, pos}
use Rattle.std.specs.Ordering.{int_eq}
use Rattle.std.specs.List.{list_any}
use Rattle.zbx_types.specs.Arithmetic.{is_true}
use Rattle.zbx_types.specs.Ids.{at_id}
use Rattle.zbx_types.specs.Masters.{masters_of}
use Rattle.zbx_types.specs.Records.{tags_of}
use Rattle.zbx_types.specs.Tags.{share_value}
use Rattle.zbx_types.specs.declared.conf.Conf.{Conf}
use Rattle.zbx_types.specs.declared.entries.EventId.{EventId}
use Rattle.zbx_types.specs.declared.entries.Tag.{Tag}
use Rattle.zbx_types.specs.declared.triggers.RecoveryMode.{RecoveryMode}
use Rattle.zbx_types.specs.declared.triggers.RecoveryMode.TheVariants as modes
use Rattle.zbx_types.specs.declared.triggers.Trigger.{Trigger}
use Rattle.trigger_state.specs.Problems.{event_in}
use Rattle.trigger_state.specs.declared.answer.Verdict.{Verdict}
use Rattle.trigger_state.specs.declared.answer.Verdict.TheVariants.{Nothing, New, Close}
use Rattle.trigger_state.specs.declared.problems.Open.{Open}

-- a list is empty
abbrev pub is_none : {A : Type 0} → List A → Bool
is_none [] = true
is_none (x ∷ xs) = false

-- of one of these triggers a problem is open
abbrev pub some_open : (ℕ → List Open) → List ℕ → Bool
some_open opens ids = list_any (λ id. not (is_none (opens id))) ids

-- a trigger is held: a problem of one of its masters is open
abbrev pub is_held : Conf → (ℕ → List Open) → ℕ → Bool
is_held conf opens id = some_open opens (masters_of conf id)

-- a value is known and not 0
abbrev pub is_known_true : Option ℤ → Bool
is_known_true None = false
is_known_true (Some z) = is_true z

-- a trigger whose problem expression is 0 recovers, where its recovery expression has this value
abbrev pub lets_close : RecoveryMode → Option ℤ → Bool
lets_close modes.Expression r = true
lets_close modes.RecoveryExpression r = is_known_true r
lets_close modes.Nothing r = false

-- a trigger whose problem expression is true makes a problem
abbrev pub makes_new : Trigger → List Open → Bool → Bool
makes_new trigger os is_value = is_none os || (trigger.multiple && is_value)

-- a problem closes with a trigger that has this close tag, and now these tags
abbrev pub is_closed_by : List ℕ → List Tag → Open → Bool
is_closed_by close_tag tags o = is_none close_tag || share_value (tags_of o.problem) close_tag tags close_tag

-- the events of the open problems that close, in the order of making
abbrev pub closing : Trigger → List Tag → List Open → List EventId
closing trigger tags os = map event_in (filter (is_closed_by trigger.close_tag tags) os)

-- these close, where there are some
abbrev pub close_all : List EventId → Verdict
close_all [] = Nothing
close_all (e ∷ es) = Close (e ∷ es)

-- the verdict where the problem expression is true
abbrev pub on_true : Trigger → List Open → Bool → Verdict
on_true trigger os is_value = if makes_new trigger os is_value then New else Nothing

-- the verdict where the problem expression is 0
abbrev pub on_zero : Trigger → List Open → Option ℤ → List Tag → Verdict
on_zero trigger os r tags = if lets_close trigger.recovery r then close_all (closing trigger tags os) else Nothing

-- the verdict on a trigger that isn't held
abbrev pub freely : Trigger → List Open → Option ℤ → Option ℤ → List Tag → Bool → Verdict
freely trigger os None r tags is_value = Nothing
freely trigger os (Some p) r tags is_value = if int_eq p (pos 0) then on_zero trigger os r tags else on_true trigger os is_value

-- the verdict on a trigger that may be held, over its own open problems
abbrev pub verdict_over : Trigger → Bool → List Open → Option ℤ → Option ℤ → List Tag → Bool → Verdict
verdict_over trigger held os p r tags is_value = if held then Nothing else freely trigger os p r tags is_value

-- the same of the trigger that an id has, and nothing where there is none
abbrev pub verdict_by : Option Trigger → Bool → List Open → Option ℤ → Option ℤ → List Tag → Bool → Verdict
verdict_by None held os p r tags is_value = Nothing
verdict_by (Some trigger) held os p r tags is_value = verdict_over trigger held os p r tags is_value

-- the verdict on the trigger with an id, over the open problems of all triggers
abbrev pub verdict_of : Conf → (ℕ → List Open) → ℕ → Option ℤ → Option ℤ → List Tag → Bool → Verdict
verdict_of conf opens id p r tags is_value = verdict_by (at_id conf.triggers id) (is_held conf opens id) (opens id) p r tags is_value
