use Rattle.std.proofs.Common.{◌∙◌, Some, sym, ap, arith, length, codes}
use Rattle.host_layout.specs.Elements.{placed_host}
use Rattle.host_layout.proofs.PlacedElements.{slice_get-placed}
use Rattle.config_templates.proofs.depends.dependings.Goals as goal

pub add_host-requires-clause-there : goal.add_host-requires-clause-there
add_host-requires-clause-there c =
    slice_get-placed (codes "/hosts") c.args.known.now.raw.now.hosts c.loop-place.place c.host-item.result (omega (arith, ap length c.as_slice-host-items.ensures))
    ∙ ap (λ h. Some (placed_host c.loop-place.place h)) (sym (rw c.as_slice-host-items.ensures at c.host-item.is))
