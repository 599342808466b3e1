use Rattle.std.proofs.Common.{◌≡◌, [], ◌∷◌, take}
use Rattle.host_layout.specs.Places.{first_fault}
use Rattle.host_layout.specs.Links.{templates_named, unknown_link, placed_links}
use Rattle.host_layout.specs.Sources.{placed_of}
use Rattle.host_layout.proofs.LinkFaults.{links_from}
use Rattle.host_layout.proofs.templates.links.linked.Given as goal

abbrev pub invariant-loop-at : goal.invariant-loop-at
invariant-loop-at l = record {
  made : l.made ≡ templates_named l.names.templates.now (take l.at l.source.body.now.templates);
  rest : first_fault (unknown_link l.names.templates.now) (links_from (placed_of l.source) l.at) ≡ first_fault (unknown_link l.names.templates.now) (placed_links (placed_of l.source ∷ []));
}
