-- The flat configuration of a document whose links are right.
use Rattle.std.specs.Prelude.{ℕ, List, map, Result, Ok}
use Rattle.zbx_types.specs.declared.conf.Conf.{Conf}
use Rattle.zbx_types.specs.declared.items.Item.{Item}
use Rattle.zbx_types.specs.declared.triggers.Trigger.{Trigger}
use Rattle.config_read.specs.declared.raw.RawConf.{RawConf}
use Rattle.host_layout.specs.Places.{Flaw, unless, ◌>>=◌}
use Rattle.host_layout.specs.Items.{items_of}
use Rattle.host_layout.specs.Masters.{mastered}
use Rattle.host_layout.specs.Prepared.{prepared}
use Rattle.host_layout.specs.StepPatterns.{step_patterns}
use Rattle.config_templates.specs.Triggers.{triggers_of}
use Rattle.config_templates.specs.Depends.{depending}
use Rattle.config_templates.specs.NamedHosts.{unknown_hosts}
use Rattle.host_layout.specs.Patterns.{Pattern}
use Rattle.config_templates.specs.Flat.{host_made, conf_made}
use Rattle.config_templates.specs.declared.flattening.Copies.{Copies}

-- what the flat configuration of a document with these patterns has copies of
abbrev pub copies_of : List ℕ → RawConf → List Pattern → Copies
copies_of text raw patterns = record {
  text = text;
  hosts = map host_made raw.hosts;
  patterns = map (λ p. p.text) patterns;
  pattern_paths = map (λ p. p.path) patterns;
}

-- the flat configuration of a document with these items, triggers and copies
abbrev pub conf_with : RawConf → List Item → List Trigger → Copies → Conf
conf_with raw items triggers copies = record {
  text = copies.text;
  utc_offset = raw.utc_offset;
  hosts = copies.hosts;
  items = items;
  triggers = triggers;
  correlations = raw.correlations;
  maintenances = raw.maintenances;
  actions = raw.actions;
  patterns = copies.patterns;
  pattern_paths = copies.pattern_paths;
}

-- what is laid out behind the items and the patterns of their steps
abbrev pub behind_items : List ℕ → RawConf → List Item → List Pattern → Result Conf Flaw
behind_items text raw items patterns = do
  found ← triggers_of raw items patterns
  triggers ← depending raw found.triggers
  raw ← unless raw (unknown_hosts raw)
  Ok (conf_made text raw items triggers found.patterns)

-- what is laid out behind the links
abbrev pub behind_links : List ℕ → RawConf → Result Conf Flaw
behind_links text raw = do
  items ← items_of raw
  items ← mastered raw items
  items ← prepared raw items
  patterns ← step_patterns raw
  behind_items text raw items patterns
