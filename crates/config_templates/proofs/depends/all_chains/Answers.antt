use Rattle.std.proofs.Common.{◌∙◌, ap, ap₂, sym, length}
use Rattle.std.proofs.lemmas.List.{length-map}
use Rattle.dependency_graph.specs.Depths.{depths_of}
use Rattle.config_templates.specs.Depends.{links_of, linked_from, cyclic}
use Rattle.config_templates.specs.Dependings.{dependings_now}
use Rattle.config_templates.proofs.Counts.{as_many}
use Rattle.config_templates.proofs.Linked.{closed_links, given}
use Rattle.config_templates.proofs.depends.all_chains.Goals as goal

pub found_chains-requires : goal.found_chains-requires
found_chains-requires c =
    let ds = dependings_now c.in_ok-found.found in
    let triggers = c.args.known.now.list.now.triggers in
    let held = ap (λ d. links_of (dependings_now d)) c.as_slice.ensures in
    let size = length-map ds (λ d. d.ends) ∙ as_many c.args.known.now.raw.now triggers ds c.in_ok-found.ensures.gives ∙ sym c.requires.written in
    closed_links (links_of (dependings_now c.as_slice.result.now)) (links_of ds) (length triggers) held size c.in_ok-found.ensures.within

pub returns : goal.returns
returns c =
    let ds = dependings_now c.in_ok-found.found in
    let triggers = c.args.known.now.list.now.triggers in
    let chains = c.in_ok-chains.chains in
    let held = ap (λ d. links_of (dependings_now d)) c.as_slice.ensures in
    given c.args.known.now.raw.now triggers (linked_from chains.links.items chains.depths 0 triggers) ds c.in_ok-found.ensures.gives
    (ap (λ d. cyclic (dependings_now d)) (sym c.as_slice.ensures) ∙ c.in_ok-chains.ensures.none)
    (ap₂ (λ ls ds. linked_from ls ds 0 triggers) (c.in_ok-chains.ensures.links ∙ held) (c.in_ok-chains.ensures.depths ∙ ap depths_of held))
