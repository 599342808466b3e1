-- Dependencies as the code reads them.
use Rattle.std.specs.Prelude.{◌≡◌, ℕ, ◌++◌, List, map, codes}
use Rattle.std.specs.Fmt.{decimal}
use Rattle.config_read.specs.declared.raw.RawDepend.{RawDepend}
use Rattle.host_layout.specs.Places.{Placed}
use Rattle.host_layout.specs.Elements.{element_path}
use Rattle.host_layout.specs.Names.{named_triggers}
use Rattle.host_layout.specs.Owners.{KnowsHosts}
use Rattle.config_templates.specs.Depends.{Depending, depend_path}
use Rattle.host_layout.specs.declared.templates.sources.Source.{Source}
use Rattle.config_templates.specs.declared.depends.Known.{Known}
use Rattle.config_templates.specs.declared.depends.Dependencies.{Dependencies as Held}

-- a trigger that depends on others, at its pointer
abbrev pub depending_now : Held → Depending
depending_now d = record { path = element_path d.source (codes "/triggers") d.index; ends = d.ends }

-- the same of several triggers
abbrev pub dependings_now : List Held → List Depending
dependings_now ds = map depending_now ds

-- a dependency at its place, of the trigger at an index of a source
abbrev pub placed_depend : Source → ℕ → ℕ → RawDepend → Placed RawDepend
placed_depend s index at raw = record { place = at; path = depend_path (element_path s (codes "/triggers") index) at; body = raw }

-- the places are those of the hosts' names, and the names those of the triggers
pub record IsKnown (known : Known) : Type 0 where
  pub hosts : KnowsHosts known.hosts.now known.raw.now.hosts
  pub names : known.list.now.names ≡ named_triggers known.list.now.triggers
