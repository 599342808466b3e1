use Rattle.std.proofs.Common.{◌≡◌, [], ◌∷◌}
use Rattle.host_layout.specs.Places.{first_fault}
use Rattle.host_layout.specs.Links.{cycle_link, placed_links}
use Rattle.host_layout.specs.Sources.{placed_of}
use Rattle.host_layout.proofs.LinkFaults.{links_from}
use Rattle.host_layout.proofs.templates.cycles.leads_on.Given as goal

abbrev pub invariant-loop-at : goal.invariant-loop-at
invariant-loop-at l = first_fault (cycle_link l.names.templates.now) (links_from (placed_of l.source) l.at) ≡ first_fault (cycle_link l.names.templates.now) (placed_links (placed_of l.source ∷ []))
