-- The sources of a host as the code holds them.
use Rattle.std.specs.Prelude.{ℕ, List, ◌++◌, codes}
use Rattle.std.specs.Fmt.{decimal}
use Rattle.zbx_types.specs.declared.causes.Cause.{Cause}
use Rattle.json_form.specs.Faults.{Fault}
use Rattle.config_read.specs.declared.raw.RawHost.{RawHost}
use Rattle.host_layout.specs.Places.{Placed}
use Rattle.host_layout.specs.declared.templates.sources.Origin.{Origin}
use Rattle.host_layout.specs.declared.templates.sources.Origin.TheVariants as origin
use Rattle.host_layout.specs.declared.templates.sources.Source.{Source}

-- the pointer to the list of hosts, or to that of templates
abbrev pub list_path : Origin → List ℕ
list_path origin.Host = codes "/hosts"
list_path origin.Template = codes "/templates"

-- a source at its place of the document
abbrev pub placed_of : Source → Placed RawHost
placed_of s = record { place = s.place; path = list_path s.origin ++ codes "/" ++ decimal s.place; body = s.body.now }

-- what is wrong with the link at a place among those of a source
abbrev pub link_fault : Source → ℕ → Cause → Fault
link_fault s at cause = record { path = (placed_of s).path ++ codes "/templates" ++ codes "/" ++ decimal at; cause = cause }
