-- What a configuration document stands for.
use Rattle.std.specs.Prelude.{ℕ, List, map, Result, Ok, Err}
use Rattle.json_form.specs.Faults.{Fault}
use Rattle.zbx_types.specs.declared.conf.Host.{Host}
use Rattle.zbx_types.specs.declared.items.Item.{Item}
use Rattle.zbx_types.specs.declared.triggers.Trigger.{Trigger}
use Rattle.zbx_types.specs.declared.conf.Conf.{Conf}
use Rattle.config_read.specs.declared.raw.RawHost.{RawHost}
use Rattle.config_read.specs.declared.raw.RawConf.{RawConf}
use Rattle.config_read.specs.Document.{conf_of}
use Rattle.host_layout.specs.Places.{Flaw, unless, ◌>>=◌}
use Rattle.host_layout.specs.Places.Flaw.{refused}
use Rattle.host_layout.specs.Links.{unknown_links, cycles}
use Rattle.host_layout.specs.Items.{items_of}
use Rattle.host_layout.specs.Masters.{mastered}
use Rattle.host_layout.specs.Prepared.{prepared}
use Rattle.host_layout.specs.StepPatterns.{step_patterns}
use Rattle.config_templates.specs.Triggers.{triggers_of}
use Rattle.config_templates.specs.Depends.{depending}
use Rattle.config_templates.specs.NamedHosts.{unknown_hosts}
use Rattle.host_layout.specs.Patterns.{Pattern}

-- a host of the flat configuration
abbrev pub host_made : RawHost → Host
host_made raw = record { name = raw.name; groups = raw.groups; enabled = raw.enabled }

-- the flat configuration of a document with these items, triggers and patterns
abbrev pub conf_made : List ℕ → RawConf → List Item → List Trigger → List Pattern → Conf
conf_made text raw items triggers patterns = record {
  text = text;
  utc_offset = raw.utc_offset;
  hosts = map host_made raw.hosts;
  items = items;
  triggers = triggers;
  correlations = raw.correlations;
  maintenances = raw.maintenances;
  actions = raw.actions;
  patterns = map (λ p. p.text) patterns;
  pattern_paths = map (λ p. p.path) patterns;
}

-- the document as it is read, or its first fault
abbrev pub read_of : Result RawConf Fault → Result RawConf Flaw
read_of (Ok raw) = Ok raw
read_of (Err fault) = Err (refused fault)

-- the flat configuration of a document, or why it has none
unfoldable pub laid_out : List ℕ → RawConf → Result Conf Flaw
laid_out text raw = do
  raw ← unless raw (unknown_links raw)
  raw ← unless raw (cycles raw)
  items ← items_of raw
  items ← mastered raw items
  items ← prepared raw items
  patterns ← step_patterns raw
  found ← triggers_of raw items patterns
  triggers ← depending raw found.triggers
  raw ← unless raw (unknown_hosts raw)
  Ok (conf_made text raw items triggers found.patterns)

-- the flat configuration of a text, or why it has none
unfoldable pub flat_of : List ℕ → Result Conf Flaw
flat_of text = read_of (conf_of text) >>= laid_out text
