-- Triggers.
use Rattle.std.specs.Prelude.{ℕ, Bool, true, false, List, [], Result, Ok, codes}
use Rattle.zbx_types.specs.declared.causes.Cause.TheVariants.{TooMany}
use Rattle.zbx_types.specs.declared.triggers.RecoveryMode.{RecoveryMode}
use Rattle.zbx_types.specs.declared.triggers.RecoveryMode.TheVariants as modes
use Rattle.zbx_types.specs.declared.entries.Tag.{Tag}
use Rattle.json_form.specs.Faults.{Fault, ◌>>=◌}
use Rattle.json_form.specs.Places.{Place, Object, ◌▸◌, an_object, text, truth, word, given_or, number_between}
use Rattle.json_form.specs.Lists.{list_of, named_list, at_most}
use Rattle.config_read.specs.declared.raw.RawTrigger.{RawTrigger}
use Rattle.config_read.specs.declared.raw.RawDepend.{RawDepend}
use Rattle.config_read.specs.Words.{is_title, new_name, recovery_mode}

-- a tag of a trigger
unfoldable pub tag_of : Place → Result Tag Fault
tag_of at = do
  o ← an_object at
  tag ← text (o ▸ codes "tag")
  value ← given_or [] text (o ▸ codes "value")
  Ok (record { tag = tag; value = value })

-- a trigger that another one depends on; no host is the own one
unfoldable pub depend_of : Place → Result RawDepend Fault
depend_of at = do
  o ← an_object at
  host ← given_or [] text (o ▸ codes "host")
  trigger ← text (o ▸ codes "trigger")
  Ok (record { host = host; trigger = trigger })

-- a text that may be given and isn't used
unfoldable pub unused_text : Place → Result (List ℕ) Fault
unused_text at = given_or [] text at >>= λ given. Ok []

-- the recovery expression, which its own mode alone needs and uses
unfoldable pub recovery_text : RecoveryMode → Place → Result (List ℕ) Fault
recovery_text modes.Expression at = unused_text at
recovery_text modes.RecoveryExpression at = text at
recovery_text modes.Nothing at = unused_text at

-- how problems close, and the recovery expression
unfoldable pub recovery_of : Object → Result (RecoveryMode × List ℕ) Fault
recovery_of o = do
  mode ← given_or modes.Expression (word recovery_mode) (o ▸ codes "recovery")
  expression ← recovery_text mode (o ▸ codes "recovery_expression")
  Ok (mode, expression)

-- whether problems stand side by side, and the tag by which they close
unfoldable pub closing_of : Object → Result (Bool × List ℕ) Fault
closing_of o = do
  multiple ← given_or false truth (o ▸ codes "multiple")
  tag ← given_or [] text (o ▸ codes "close_tag")
  Ok (multiple, tag)

-- the tags, 16 at most
unfoldable pub tags_of : Place → Result (List Tag) Fault
tags_of at = at_most 16 TooMany at >>= λ few. list_of tag_of few

-- the tags, and the triggers that it depends on
unfoldable pub links_of : Object → Result (List Tag × List RawDepend) Fault
links_of o = do
  tags ← tags_of (o ▸ codes "tags")
  depends ← list_of depend_of (o ▸ codes "depends")
  Ok (tags, depends)

-- the name, which isn't taken, the expression, how problems close, and the recovery expression
unfoldable pub front_of : List (List ℕ) → Object → Result (List ℕ × List ℕ × RecoveryMode × List ℕ) Fault
front_of taken o = do
  name ← new_name is_title taken (o ▸ codes "name")
  expression ← text (o ▸ codes "expression")
  recovery ← recovery_of o
  Ok (name, expression, recovery.0, recovery.1)

-- how its problems stand: side by side or not, the tag by which they close, and how severe they are
unfoldable pub problems_of : Object → Result (Bool × List ℕ × ℕ) Fault
problems_of o = do
  closing ← closing_of o
  severity ← given_or 0 (number_between 0 5) (o ▸ codes "severity")
  Ok (closing.0, closing.1, severity)

-- the tags, the triggers that it depends on, and whether it is evaluated
unfoldable pub back_of : Object → Result (List Tag × List RawDepend × Bool) Fault
back_of o = do
  links ← links_of o
  enabled ← given_or true truth (o ▸ codes "enabled")
  Ok (links.0, links.1, enabled)

-- a trigger whose name isn't taken
unfoldable pub trigger_of : List (List ℕ) → Place → Result RawTrigger Fault
trigger_of taken at = do
  o ← an_object at
  front ← front_of taken o
  problems ← problems_of o
  back ← back_of o
  Ok (record { name = front.0; expression = front.1; recovery = front.2; recovery_expression = front.3; multiple = problems.0; close_tag = problems.1; severity = problems.2; tags = back.0; depends = back.1; enabled = back.2 })

-- triggers of distinct names
unfoldable pub triggers_of : Place → Result (List RawTrigger) Fault
triggers_of at = named_list (λ (t : RawTrigger). t.name) trigger_of [] at
