use Rattle.std.proofs.Common.{◌∙◌}
use Rattle.host_layout.proofs.Taken.{stands_at}
use Rattle.host_layout.proofs.owned_names.OwnedNames.place.Goals as goal

pub returns : goal.returns
returns c = c.get_index_of.ensures.index ∙ stands_at (c.args.host, c.in_ok-name.name) c.self.inside.taken.keys c.args.self.now c.args.name.now c.self.view_is c.in_ok-name.ensures.ok
