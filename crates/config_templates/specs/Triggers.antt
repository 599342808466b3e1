-- The triggers of the flat configuration.
use Rattle.std.specs.Prelude.{ℕ, ◌+◌, ◌==◌, nat_le, Bool, ◌&&◌, List, [], ◌∷◌, ◌++◌, length, flat_map, if◌then◌else◌, Result, Ok, codes}
use Rattle.std.specs.List.{list_any}
use Rattle.std.specs.Str.{bytes_eq}
use Rattle.zbx_types.specs.declared.items.Item.{Item}
use Rattle.zbx_types.specs.declared.entries.Tag.{Tag}
use Rattle.zbx_types.specs.declared.triggers.Trigger.{Trigger}
use Rattle.zbx_types.specs.declared.causes.Cause.TheVariants.{Duplicate, TooMany}
use Rattle.macro_text.specs.declared.macros.Macro.{Macro}
use Rattle.config_read.specs.declared.raw.RawTrigger.{RawTrigger}
use Rattle.config_read.specs.declared.raw.RawHost.{RawHost}
use Rattle.config_read.specs.declared.raw.RawConf.{RawConf}
use Rattle.host_layout.specs.Places.{Flaw, Placed, placed, refuse, each_list, ◌>>=◌}
use Rattle.host_layout.specs.Links.{placed_hosts}
use Rattle.host_layout.specs.Macros.{macros_of}
use Rattle.config_templates.specs.Expressions.{Meant, expressions_of}
use Rattle.host_layout.specs.Hosts.{Owner, owner_of}
use Rattle.host_layout.specs.Patterns.{Pattern}
use Rattle.config_templates.specs.Titles.{title_of, tags_of}
use Rattle.config_templates.specs.Uses.{Users, trigger_joined}
use Rattle.config_templates.specs.declared.triggers.Found.{Found}

-- the most triggers of all hosts
abbrev pub most_triggers : ℕ
most_triggers = 50000

-- one of the triggers is this host's and has this name, as it is written
abbrev pub has_trigger : List Trigger → ℕ → List ℕ → Bool
has_trigger triggers host name = list_any (λ t. (t.host == host) && bytes_eq t.name name) triggers

-- a trigger of a host, with its title, its tags and what its expressions mean; what it depends on comes later
abbrev pub trigger_made : ℕ → List ℕ → List Tag → RawTrigger → Meant → Trigger
trigger_made host title tags raw meant = record {
  host = host;
  name = raw.name;
  title = title;
  expr = meant.expr;
  recovery = raw.recovery;
  recovery_expr = meant.recovery_expr;
  calls = meant.calls ++ meant.recovery_calls;
  call_items = meant.call_items;
  multiple = raw.multiple;
  close_tag = raw.close_tag;
  severity = raw.severity;
  tags = tags;
  depends = [];
  enabled = raw.enabled;
  depth = 0;
}

-- what a trigger with this title and these tags uses patterns in
abbrev pub users_of : List ℕ → List Tag → Meant → Users
users_of title tags meant = record { title = title; calls = meant.calls; recovery_calls = meant.recovery_calls; tags = tags }

-- one trigger more of the host with this id and these macros, by what its expressions mean, and the patterns that it uses
abbrev pub found_with : ℕ → List Macro → Found → Placed RawTrigger → Meant → Result Found Flaw
found_with host macros found p meant =
    trigger_joined found.patterns p.path (users_of (title_of macros p.body) (tags_of macros p.body) meant)
    >>= λ patterns. Ok (record { triggers = found.triggers ++ trigger_made host (title_of macros p.body) (tags_of macros p.body) p.body meant ∷ []; patterns = patterns })

-- the same of a trigger of a host with these macros
unfoldable pub trigger_of : RawConf → List Item → Owner → List Macro → Found → Placed RawTrigger → Result Found Flaw
trigger_of raw items owner macros found p =
    if has_trigger found.triggers owner.id p.body.name then refuse (p.path ++ codes "/name") Duplicate
    else if nat_le most_triggers (length found.triggers) then refuse p.path TooMany
    else (expressions_of raw items owner macros p >>= found_with owner.id macros found p)

-- the triggers of some sources, in their order
abbrev pub placed_triggers : List (Placed RawHost) → List (Placed RawTrigger)
placed_triggers sources = flat_map (λ s. placed (s.path ++ codes "/triggers") s.body.triggers) sources

-- the triggers of a host, behind those of the hosts before it
unfoldable pub triggers_from : RawConf → List Item → Owner → Found → Result Found Flaw
triggers_from raw items owner found = each_list (trigger_of raw items owner (macros_of raw owner.sources)) found (placed_triggers owner.sources)

-- the triggers of all hosts, and the patterns that they use, behind those of the items
unfoldable pub triggers_of : RawConf → List Item → List Pattern → Result Found Flaw
triggers_of raw items patterns = each_list (λ found h. triggers_from raw items (owner_of raw h) found) (record { triggers = []; patterns = patterns }) (placed_hosts raw)
