use Rattle.std.proofs.Common.{refl}
use Rattle.host_layout.proofs.LinkLemmas.{links_of-closed}
use Rattle.host_layout.proofs.Ranked.{none_on_cycle}
use Rattle.host_layout.proofs.templates.cycles.acyclic.Goals as goal

pub ranks_of-requires : goal.ranks_of-requires
ranks_of-requires c = links_of-closed c.args.names.now.templates.now c.args.links.now c.requires

pub falls-requires-clause-closed : goal.falls-requires-clause-closed
falls-requires-clause-closed c = links_of-closed c.args.names.now.templates.now c.args.links.now c.requires

pub returns-then-falls-clause-none : goal.returns-then-falls-clause-none
returns-then-falls-clause-none c = none_on_cycle c.args.names.now.templates.now c.args.links.now c.deref.result.now c.requires (c.if-falls.ensures refl)
