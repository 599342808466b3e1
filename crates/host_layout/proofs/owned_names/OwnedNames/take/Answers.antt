use Rattle.std.proofs.Common.{◌∙◌, ap, not}
use Rattle.host_layout.proofs.Taken.{is_among}
use Rattle.host_layout.proofs.owned_names.OwnedNames.take.Goals as goal

pub returns-clause-free : goal.returns-clause-free
returns-clause-free c = c.in_ok-insert.ensures.added ∙ ap not (is_among (c.args.host, c.in_ok-name.name) c.self.inside.taken.keys c.args.self.now c.args.name.now c.self.view_is c.in_ok-name.ensures.ok)
