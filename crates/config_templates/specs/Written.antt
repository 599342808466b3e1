-- Triggers as the code makes them.
use Rattle.std.specs.Prelude.{ℕ, List, [], ◌∷◌, ◌++◌, Result}
use Rattle.zbx_types.specs.declared.items.Item.{Item}
use Rattle.zbx_types.specs.declared.triggers.Trigger.{Trigger}
use Rattle.macro_text.specs.declared.macros.Macro.{Macro}
use Rattle.config_read.specs.declared.raw.RawConf.{RawConf}
use Rattle.config_read.specs.declared.raw.RawTrigger.{RawTrigger}
use Rattle.host_layout.specs.Places.{Flaw, Placed, ◌>>=◌}
use Rattle.config_templates.specs.Expressions.{Meant, expressions_of}
use Rattle.host_layout.specs.Hosts.{Owner}
use Rattle.config_templates.specs.Triggers.{found_with}
use Rattle.host_layout.specs.Patterns.{Pattern}
use Rattle.config_templates.specs.Titles.{title_of, tags_of}
use Rattle.config_templates.specs.declared.triggers.Found.{Found}
use Rattle.config_templates.specs.declared.triggers.Written.{Written}
use Rattle.config_templates.specs.declared.triggers.Texts.{Texts}

-- what a trigger takes over as it is written
abbrev pub written : RawTrigger → Written
written raw = record { name = raw.name; close_tag = raw.close_tag }

-- the texts of a trigger of a host with these macros
abbrev pub texts_of : List Macro → RawTrigger → Texts
texts_of macros raw = record { written = written raw; title = title_of macros raw; tags = tags_of macros raw }

-- a trigger of a host, with its texts and what its expressions mean; what it depends on comes later
abbrev pub trigger_with : ℕ → Texts → RawTrigger → Meant → Trigger
trigger_with host texts raw meant = record {
  host = host;
  name = texts.written.name;
  title = texts.title;
  expr = meant.expr;
  recovery = raw.recovery;
  recovery_expr = meant.recovery_expr;
  calls = meant.calls ++ meant.recovery_calls;
  call_items = meant.call_items;
  multiple = raw.multiple;
  close_tag = texts.written.close_tag;
  severity = raw.severity;
  tags = texts.tags;
  depends = [];
  enabled = raw.enabled;
  depth = 0;
}

-- one trigger more, whose name is free, where there is room for it
abbrev pub free_trigger : RawConf → List Item → Owner → List Macro → Found → Placed RawTrigger → Result Found Flaw
free_trigger raw items owner macros found p = expressions_of raw items owner macros p >>= found_with owner.id macros found p

-- what was found, with a trigger more and these patterns
abbrev pub more_found : List Trigger → List Pattern → Trigger → Found
more_found triggers patterns t = record { triggers = triggers ++ t ∷ []; patterns = patterns }
