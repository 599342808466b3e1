-- The links of a document as the code holds them, and what is wrong with them.
use Rattle.std.specs.Prelude.{◌≡◌, map, Option}
use Rattle.std.specs.Option.{option_or}
use Rattle.json_form.specs.Faults.{Fault}
use Rattle.config_read.specs.declared.raw.RawConf.{RawConf}
use Rattle.host_layout.specs.Links.{links_of, templates_named, unknown_links, cycles}
use Rattle.host_layout.specs.declared.templates.links.Links.{Links}

-- for each template, and for each host, the places of its templates
pub record HasLinks (raw : RawConf) (links : Links) : Type 0 where
  pub templates : links.templates.items ≡ links_of raw.templates
  pub hosts : links.hosts.items ≡ map (λ h. templates_named raw.templates h.templates) raw.hosts

-- the first link to an unknown name, or else the first that lies on a cycle
abbrev pub link_faults : RawConf → Option Fault
link_faults raw = option_or (unknown_links raw) (cycles raw)
