use Rattle.std.proofs.lemmas.Result.{err_from_is_err_and}
use Rattle.host_layout.specs.Places.{placed, first_fault}
use Rattle.host_layout.specs.Links.{unknown_link, placed_links}
use Rattle.host_layout.specs.Sources.{list_path}
use Rattle.host_layout.proofs.AllLinks.{linked_more}
use Rattle.host_layout.proofs.LinkFaults.{source_passed, source_told}
use Rattle.host_layout.proofs.templates.links.all_linked.Goals as goal

pub returns-in_err-places-clause-refused : goal.returns-in_err-places-clause-refused
returns-in_err-places-clause-refused c =
    let templates = c.args.names.now.templates.now in
    let bodies = c.args.bodies.now in
    let p = err_from_is_err_and c.from_residual.result c.from_residual.ensures.1 in
    rw (p.1, p.2) (source_told (unknown_link templates) (list_path c.args.origin) bodies c.loop-place.place c.index-bodies-place.result
    (first_fault (unknown_link templates) (placed_links (placed (list_path c.args.origin) bodies))) c.in_err-places.field-0.0
    c.loop-place-test.true c.index-bodies-place.is c.loop-place.invariant.rest c.in_err-places.ensures.refused)

pub loop-place-preserved : goal.loop-place-preserved
loop-place-preserved c =
    let templates = c.args.names.now.templates.now in
    let bodies = c.args.bodies.now in
    let at = c.loop-place.place in
    record {
      made = linked_more templates bodies at c.index-bodies-place.result c.loop-place.made.items c.push.new.self.items c.in_ok-places.places
          c.loop-place-test.true c.index-bodies-place.is c.loop-place.invariant.made c.in_ok-places.ensures.made c.in_ok-push.ensures.items;
      rest = source_passed (unknown_link templates) (list_path c.args.origin) bodies at c.index-bodies-place.result
          (first_fault (unknown_link templates) (placed_links (placed (list_path c.args.origin) bodies)))
          c.loop-place-test.true c.index-bodies-place.is c.in_ok-places.ensures.known c.loop-place.invariant.rest;
    }
