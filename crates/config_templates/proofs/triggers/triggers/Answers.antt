use Rattle.std.proofs.Common.{◌≡◌, ◌∙◌, [], drop, Some, sym, ap, arith, length, codes}
use Rattle.host_layout.specs.Elements.{placed_host}
use Rattle.host_layout.specs.Places.{each_list, placed_from}
use Rattle.std.proofs.lemmas.List.{drop_all}
use Rattle.host_layout.specs.Hosts.{owner_of}
use Rattle.config_templates.specs.Triggers.{triggers_from}
use Rattle.config_templates.proofs.FoundCounts.{as_many_triggers}
use Rattle.host_layout.proofs.PlacedElements.{slice_get-placed}
use Rattle.config_templates.proofs.triggers.triggers.Goals as goal

pub add_host-requires-clause-there : goal.add_host-requires-clause-there
add_host-requires-clause-there c =
    slice_get-placed (codes "/hosts") c.args.scope.now.raw.now.hosts c.loop-place.place c.host-item.result (omega (arith, ap length c.as_slice-host-items.ensures))
    ∙ ap (λ h. Some (placed_host c.loop-place.place h)) (sym (rw c.as_slice-host-items.ensures at c.host-item.is))

pub returns-clause-written : goal.returns-clause-written
returns-clause-written c =
    let raw = c.args.scope.now.raw.now in
    let items = c.args.scope.now.items.now.items in
    let done : drop c.loop-place.place raw.hosts ≡ [] = drop_all c.loop-place.place raw.hosts (omega (arith, ap length c.as_slice-host-items.ensures)) in
    let given = sym c.loop-place.invariant.gives ∙ ap (λ rest. each_list (λ found h. triggers_from raw items (owner_of raw h) found) c.loop-place.list.found (placed_from (codes "/hosts") c.loop-place.place rest)) done in
    as_many_triggers raw items c.args.patterns c.loop-place.list.found given
