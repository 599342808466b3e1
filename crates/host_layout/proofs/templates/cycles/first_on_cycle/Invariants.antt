use Rattle.std.proofs.Common.{◌≡◌}
use Rattle.std.specs.Prelude.{codes}
use Rattle.host_layout.specs.Places.{placed, first_fault}
use Rattle.host_layout.specs.Links.{cycle_link, placed_links}
use Rattle.host_layout.proofs.LinkFaults.{sources_from}
use Rattle.host_layout.proofs.templates.cycles.first_on_cycle.Given as goal

abbrev pub invariant-loop-place : goal.invariant-loop-place
invariant-loop-place l =
    first_fault (cycle_link l.names.templates.now) (sources_from (codes "/templates") l.names.templates.now l.place)
    ≡ first_fault (cycle_link l.names.templates.now) (placed_links (placed (codes "/templates") l.names.templates.now))
