use Rattle.std.specs.Prelude.{codes}
use Rattle.std.proofs.lemmas.Result.{err_from_is_err_and}
use Rattle.host_layout.specs.Places.{placed, first_fault}
use Rattle.host_layout.specs.Links.{cycle_link, placed_links}
use Rattle.host_layout.proofs.LinkFaults.{source_passed, source_told}
use Rattle.host_layout.proofs.templates.cycles.first_on_cycle.Goals as goal

pub returns-in_err-leads_on-clause-refused : goal.returns-in_err-leads_on-clause-refused
returns-in_err-leads_on-clause-refused c =
    let templates = c.args.names.now.templates.now in
    let p = err_from_is_err_and c.from_residual.result c.from_residual.ensures.1 in
    rw (p.1, p.2) (source_told (cycle_link templates) (codes "/templates") templates c.loop-place.place c.body-item.result
    (first_fault (cycle_link templates) (placed_links (placed (codes "/templates") templates))) c.in_err-leads_on.field-0.0
    c.loop-place-test.true c.body-item.is c.loop-place.invariant c.in_err-leads_on.ensures.refused)

pub loop-place-preserved : goal.loop-place-preserved
loop-place-preserved c =
    let templates = c.args.names.now.templates.now in
    source_passed (cycle_link templates) (codes "/templates") templates c.loop-place.place c.body-item.result
    (first_fault (cycle_link templates) (placed_links (placed (codes "/templates") templates)))
    c.loop-place-test.true c.body-item.is c.in_ok-leads_on.ensures.none c.loop-place.invariant
