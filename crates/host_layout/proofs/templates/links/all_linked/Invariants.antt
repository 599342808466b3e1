use Rattle.std.proofs.Common.{◌≡◌, map, take}
use Rattle.host_layout.specs.Places.{placed, first_fault}
use Rattle.host_layout.specs.Links.{templates_named, unknown_link, placed_links}
use Rattle.host_layout.specs.Sources.{list_path}
use Rattle.host_layout.proofs.LinkFaults.{sources_from}
use Rattle.host_layout.proofs.templates.links.all_linked.Given as goal

abbrev pub invariant-loop-place : goal.invariant-loop-place
invariant-loop-place l = record {
  made : l.made.items ≡ map (λ b. templates_named l.names.templates.now b.templates) (take l.place l.bodies);
  rest : first_fault (unknown_link l.names.templates.now) (sources_from (list_path l.origin) l.bodies l.place)
      ≡ first_fault (unknown_link l.names.templates.now) (placed_links (placed (list_path l.origin) l.bodies));
}
