-- The triggers that triggers depend on (the Zabbix 6.0 manual, "Trigger dependencies").
use Rattle.std.specs.Prelude.{ℕ, ◌+◌, ◌==◌, ◌&&◌, if◌then◌else◌, List, [], ◌∷◌, ◌++◌}
use Rattle.std.specs.Prelude.{length, map, flat_map, get_or, position, slice_get, Option, Some, None, option_map, option_and_then, Result, Ok, codes}
use Rattle.std.specs.Fmt.{decimal}
use Rattle.std.specs.Str.{bytes_eq}
use Rattle.zbx_types.specs.declared.triggers.Trigger.{Trigger}
use Rattle.zbx_types.specs.declared.causes.Cause.TheVariants.{UnknownName, Cycle}
use Rattle.dependency_graph.specs.Cycles.{first_on_cycle}
use Rattle.dependency_graph.specs.Depths.{depths_of}
use Rattle.dependency_graph.specs.declared.cycles.LinkPlace.{LinkPlace}
use Rattle.json_form.specs.Faults.{Fault}
use Rattle.config_read.specs.declared.raw.RawDepend.{RawDepend}
use Rattle.config_read.specs.declared.raw.RawTrigger.{RawTrigger}
use Rattle.config_read.specs.declared.raw.RawHost.{RawHost}
use Rattle.config_read.specs.declared.raw.RawConf.{RawConf}
use Rattle.host_layout.specs.Places.{Flaw, Placed, placed, refuse, unless, each, each_list, ◌>>=◌}
use Rattle.host_layout.specs.Links.{sources_of, placed_hosts}
use Rattle.config_templates.specs.Triggers.{placed_triggers}

-- the id of the host that a dependency names: the own host where it names none
abbrev pub host_depended : List RawHost → ℕ → List ℕ → Option ℕ
host_depended hosts own name = if length name == 0 then Some own else option_map (λ place. place + 1) (position (λ h. bytes_eq h.name name) hosts)

-- the place of the trigger of a host with a name, as it is written
abbrev pub trigger_placed : List Trigger → ℕ → List ℕ → Option ℕ
trigger_placed triggers host name = position (λ t. (t.host == host) && bytes_eq t.name name) triggers

-- by the trigger that it names
abbrev pub trigger_depended : List ℕ → Option ℕ → Result ℕ Flaw
trigger_depended path None = refuse (path ++ codes "/trigger") UnknownName
trigger_depended path (Some place) = Ok place

-- by the host that it names
abbrev pub depended_on : List Trigger → Placed RawDepend → Option ℕ → Result ℕ Flaw
depended_on triggers d None = refuse (d.path ++ codes "/host") UnknownName
depended_on triggers d (Some host) = trigger_depended d.path (trigger_placed triggers host d.body.trigger)

-- the place of the trigger that a dependency names, of a trigger of the host with this id
unfoldable pub depend_of : List RawHost → List Trigger → ℕ → List ℕ → Placed RawDepend → Result ℕ Flaw
depend_of hosts triggers own before d = depended_on triggers d (host_depended hosts own d.body.host)

-- the places of all that a trigger of the host with this id depends on
unfoldable pub depends_of : List RawHost → List Trigger → ℕ → Placed RawTrigger → Result (List ℕ) Flaw
depends_of hosts triggers own t = each (depend_of hosts triggers own) [] (placed (t.path ++ codes "/depends") t.body.depends)

-- a trigger that depends on others: the pointer to it, and the places of those
pub record Depending : Type 0 where
  pub path : List ℕ
  pub ends : List ℕ

-- a trigger of the host with this id
unfoldable pub depending_of : List RawHost → List Trigger → ℕ → List Depending → Placed RawTrigger → Result Depending Flaw
depending_of hosts triggers own before t = depends_of hosts triggers own t >>= λ ends. Ok (record { path = t.path; ends = ends })

-- those of the host with this id and these sources, behind those of the hosts before it
unfoldable pub dependings_from : RawConf → List Trigger → ℕ → List (Placed RawHost) → List Depending → Result (List Depending) Flaw
dependings_from raw triggers own sources before = each (depending_of raw.hosts triggers own) before (placed_triggers sources)

-- those of all hosts
unfoldable pub dependings_of : RawConf → List Trigger → Result (List Depending) Flaw
dependings_of raw triggers = each_list (λ before h. dependings_from raw triggers (h.place + 1) (sources_of raw h) before) [] (placed_hosts raw)

-- for each the places of those that it depends on
abbrev pub links_of : List Depending → List (List ℕ)
links_of dependings = map (λ d. d.ends) dependings

-- the pointer to a dependency of a trigger
abbrev pub depend_path : List ℕ → ℕ → List ℕ
depend_path path at = (path ++ codes "/depends") ++ codes "/" ++ decimal at

-- what is wrong with the dependency at this place
abbrev pub cycle_at : List Depending → LinkPlace → Option Fault
cycle_at dependings link = option_map (λ d. record { path = depend_path d.path link.at ++ codes "/trigger"; cause = Cycle }) (slice_get dependings link.from)

-- the first dependency that lies on a cycle
unfoldable pub cyclic : List Depending → Option Fault
cyclic dependings = option_and_then (cycle_at dependings) (first_on_cycle (links_of dependings))

-- a trigger with the ids of those that it depends on, and its depth
abbrev pub linked : Trigger → List ℕ → ℕ → Trigger
linked t ends depth = record {
  host = t.host;
  name = t.name;
  title = t.title;
  expr = t.expr;
  recovery = t.recovery;
  recovery_expr = t.recovery_expr;
  calls = t.calls;
  call_items = t.call_items;
  multiple = t.multiple;
  close_tag = t.close_tag;
  severity = t.severity;
  tags = t.tags;
  depends = map (λ place. place + 1) ends;
  enabled = t.enabled;
  depth = depth;
}

-- the triggers from a place on, each with its links and its depth
abbrev pub linked_from : List (List ℕ) → List ℕ → ℕ → List Trigger → List Trigger
linked_from links depths place [] = []
linked_from links depths place (t ∷ ts) = linked t (get_or links place []) (get_or depths place 0) ∷ linked_from links depths (place + 1) ts

-- the triggers with what they depend on
abbrev pub all_linked : List Trigger → List (List ℕ) → List Trigger
all_linked triggers links = linked_from links (depths_of links) 0 triggers

-- the triggers of all hosts with what they depend on
unfoldable pub depending : RawConf → List Trigger → Result (List Trigger) Flaw
depending raw triggers = do
  found ← dependings_of raw triggers
  dependings ← unless found (cyclic found)
  Ok (all_linked triggers (links_of dependings))

-- all triggers as they are written, host by host
abbrev pub written_triggers : RawConf → List (Placed RawTrigger)
written_triggers raw = flat_map (λ h. placed_triggers (sources_of raw h)) (placed_hosts raw)
