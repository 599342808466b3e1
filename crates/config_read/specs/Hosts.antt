-- User macros, items, templates and hosts.
use Rattle.std.specs.Prelude.{ℕ, Bool, true, List, [], map, Result, Ok, codes}
use Rattle.zbx_types.specs.declared.causes.Cause.TheVariants.{TooMany}
use Rattle.zbx_types.specs.declared.items.ItemKind.{ItemKind}
use Rattle.zbx_types.specs.declared.items.ItemKind.TheVariants as kinds
use Rattle.zbx_types.specs.declared.items.ValueType.{ValueType}
use Rattle.zbx_types.specs.declared.items.ValueType.TheVariants as types
use Rattle.zbx_types.specs.declared.steps.StepSpec.{StepSpec}
use Rattle.json_form.specs.Faults.{Fault, ◌>>=◌}
use Rattle.json_form.specs.Places.{Place, Object, ◌▸◌, an_object, text, truth, word, given_or, free_text}
use Rattle.json_form.specs.Lists.{list_of, named_list, at_most}
use Rattle.config_read.specs.declared.raw.RawMacro.{RawMacro}
use Rattle.config_read.specs.declared.raw.RawItem.{RawItem}
use Rattle.config_read.specs.declared.raw.RawTrigger.{RawTrigger}
use Rattle.config_read.specs.declared.raw.RawHost.{RawHost}
use Rattle.config_read.specs.Words.{is_host_name, is_macro_name, new_name, item_kind, value_type}
use Rattle.config_read.specs.Ranges.{item_delay_of}
use Rattle.config_read.specs.Steps.{steps_of}
use Rattle.config_read.specs.Triggers.{triggers_of, unused_text}

-- a user macro whose name isn't taken
unfoldable pub macro_of : List (List ℕ) → Place → Result RawMacro Fault
macro_of taken at = do
  o ← an_object at
  name ← new_name is_macro_name taken (o ▸ codes "name")
  value ← text (o ▸ codes "value")
  Ok (record { name = name; value = value })

-- macros of distinct names
unfoldable pub macros_of : Place → Result (List RawMacro) Fault
macros_of at = named_list (λ (m : RawMacro). m.name) macro_of [] at

-- the key of the master item, which a dependent item alone needs and uses
unfoldable pub master_of : ItemKind → Place → Result (List ℕ) Fault
master_of kinds.Trapper at = unused_text at
master_of kinds.Active at = unused_text at
master_of kinds.Dependent at = text at

-- where values come from, and the master item
unfoldable pub source_of : Object → Result (ItemKind × List ℕ) Fault
source_of o = do
  kind ← given_or kinds.Trapper (word item_kind) (o ▸ codes "kind")
  master ← master_of kind (o ▸ codes "master")
  Ok (kind, master)

-- the key, where values come from, and the master item
unfoldable pub item_front_of : Object → Result (List ℕ × ItemKind × List ℕ) Fault
item_front_of o = do
  key ← text (o ▸ codes "key")
  source ← source_of o
  Ok (key, source.0, source.1)

-- what values are, whether they are taken, and the steps
unfoldable pub item_back_of : Object → Result (ValueType × Bool × List StepSpec) Fault
item_back_of o = do
  type ← given_or types.Number (word value_type) (o ▸ codes "value_type")
  enabled ← given_or true truth (o ▸ codes "enabled")
  steps ← steps_of (o ▸ codes "steps")
  Ok (type, enabled, steps)

-- after how many seconds an agent is to bring the next value, a minute where it isn't given; an active item alone uses it
unfoldable pub delay_of : ItemKind → Place → Result ℕ Fault
delay_of kinds.Trapper at = Ok 0
delay_of kinds.Dependent at = Ok 0
delay_of kinds.Active at = given_or 60 item_delay_of at

-- an item
unfoldable pub item_of : Place → Result RawItem Fault
item_of at = do
  o ← an_object at
  front ← item_front_of o
  back ← item_back_of o
  delay ← delay_of front.1 (o ▸ codes "delay")
  Ok (record { key = front.0; kind = front.1; master = front.2; value_type = back.0; enabled = back.1; steps = back.2; delay = delay })

-- the templates of a host, each once
unfoldable pub templates_of : Place → Result (List (List ℕ)) Fault
templates_of at = named_list (λ (name : List ℕ). name) free_text [] at

-- what hosts and templates have in common: templates, macros, items, triggers
unfoldable pub content_of : Object → Result (List (List ℕ) × List RawMacro × List RawItem × List RawTrigger) Fault
content_of o = do
  templates ← templates_of (o ▸ codes "templates")
  macros ← macros_of (o ▸ codes "macros")
  items ← list_of item_of (o ▸ codes "items")
  triggers ← triggers_of (o ▸ codes "triggers")
  Ok (templates, macros, items, triggers)

-- the name, which isn't taken, and what hosts and templates have in common
unfoldable pub front_of : List (List ℕ) → Object → Result (List ℕ × List (List ℕ) × List RawMacro × List RawItem × List RawTrigger) Fault
front_of taken o = do
  name ← new_name is_host_name taken (o ▸ codes "name")
  content ← content_of o
  Ok (name, content.0, content.1, content.2, content.3)

-- a template is in no group, and is enabled
unfoldable pub template_of : List (List ℕ) → Place → Result RawHost Fault
template_of taken at = do
  o ← an_object at
  front ← front_of taken o
  Ok (record { name = front.0; templates = front.1; macros = front.2; items = front.3; triggers = front.4; groups = []; enabled = true })

-- the groups that a host is in, and whether it is monitored
unfoldable pub membership_of : Object → Result (List (List ℕ) × Bool) Fault
membership_of o = do
  groups ← list_of text (o ▸ codes "groups")
  enabled ← given_or true truth (o ▸ codes "enabled")
  Ok (groups, enabled)

-- a host whose name isn't taken
unfoldable pub host_of : List (List ℕ) → Place → Result RawHost Fault
host_of taken at = do
  o ← an_object at
  front ← front_of taken o
  membership ← membership_of o
  Ok (record { name = front.0; templates = front.1; macros = front.2; items = front.3; triggers = front.4; groups = membership.0; enabled = membership.1 })

-- the name of a host or template
abbrev pub name_of : RawHost → List ℕ
name_of h = h.name

-- at most 1,000 with distinct names, none of them taken
unfoldable pub thousand_of : {A : Type 0} → (A → List ℕ) → (List (List ℕ) → Place → Result A Fault) → List (List ℕ) → Place → Result (List A) Fault
thousand_of name read taken at = at_most 1000 TooMany at >>= λ few. named_list name read taken few

-- the templates and the hosts, whose names are distinct over both
unfoldable pub hosts_of : Object → Result (List RawHost × List RawHost) Fault
hosts_of o = do
  templates ← thousand_of name_of template_of [] (o ▸ codes "templates")
  hosts ← thousand_of name_of host_of (map name_of templates) (o ▸ codes "hosts")
  Ok (templates, hosts)
