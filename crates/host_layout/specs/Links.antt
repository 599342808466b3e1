-- The links between templates, and from hosts to templates.
use Rattle.std.specs.Prelude.{ℕ, nat_eq, List, [], ◌∷◌, ◌++◌, map, flat_map, position, slice_get, Option, Some, None, if◌then◌else◌, codes, is_some}
use Rattle.std.specs.Option.{option_to_list}
use Rattle.std.specs.List.{list_any}
use Rattle.std.specs.Str.{bytes_eq}
use Rattle.zbx_types.specs.declared.causes.Cause.{Cause}
use Rattle.zbx_types.specs.declared.causes.Cause.TheVariants.{UnknownName, Cycle}
use Rattle.dependency_graph.specs.Walks.{walk}
use Rattle.json_form.specs.Faults.{Fault}
use Rattle.config_read.specs.declared.raw.RawHost.{RawHost}
use Rattle.config_read.specs.declared.raw.RawConf.{RawConf}
use Rattle.host_layout.specs.Places.{Placed, placed, first_fault}

-- the place of the template with a name
abbrev pub template_named : List RawHost → List ℕ → Option ℕ
template_named templates name = position (λ t. bytes_eq t.name name) templates

-- the places of the templates with some names
abbrev pub templates_named : List RawHost → List (List ℕ) → List ℕ
templates_named templates names = flat_map (λ name. option_to_list (template_named templates name)) names

-- for each template the places of its own templates
abbrev pub links_of : List RawHost → List (List ℕ)
links_of templates = map (λ t. templates_named templates t.templates) templates

-- a link of the template at a place to the one with a name
pub record Link : Type 0 where
  pub from : ℕ
  pub to : List ℕ

-- the templates of the document
abbrev pub placed_templates : RawConf → List (Placed RawHost)
placed_templates raw = placed (codes "/templates") raw.templates

-- the hosts of the document
abbrev pub placed_hosts : RawConf → List (Placed RawHost)
placed_hosts raw = placed (codes "/hosts") raw.hosts

-- the links of some templates or hosts, each at the name that it is written with
abbrev pub placed_links : List (Placed RawHost) → List (Placed Link)
placed_links sources = flat_map (λ s. placed (s.path ++ codes "/templates") (map (λ name. record { from = s.place; to = name }) s.body.templates)) sources

-- no template has the name that is linked to
abbrev pub unknown_link : List RawHost → Link → Option Cause
unknown_link templates link = if is_some (template_named templates link.to) then None else Some UnknownName

-- the link leads back to the template that it is of
abbrev pub cycle_link : List RawHost → Link → Option Cause
cycle_link templates link =
    if list_any (nat_eq link.from) (walk (links_of templates) (templates_named templates (link.to ∷ []))) then Some Cycle else None

-- the first link to an unknown name: those of the templates, then those of the hosts
unfoldable pub unknown_links : RawConf → Option Fault
unknown_links raw = first_fault (unknown_link raw.templates) (placed_links (placed_templates raw ++ placed_hosts raw))

-- the first link of a template that lies on a cycle
unfoldable pub cycles : RawConf → Option Fault
cycles raw = first_fault (cycle_link raw.templates) (placed_links (placed_templates raw))

-- the host, and the templates of its walk in their order
unfoldable pub sources_of : RawConf → Placed RawHost → List (Placed RawHost)
sources_of raw host =
    host ∷ flat_map (λ t. option_to_list (slice_get (placed_templates raw) t)) (walk (links_of raw.templates) (templates_named raw.templates host.body.templates))
