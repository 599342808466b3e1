use Rattle.std.proofs.Common.{[], ◌++◌, ap, sym, ◌∙◌}
use Rattle.std.specs.Prelude.{nat_eq}
use Rattle.std.specs.List.{list_any}
use Rattle.std.specs.Option.{option_to_list}
use Rattle.dependency_graph.specs.Walks.{walk}
use Rattle.host_layout.specs.Links.{links_of}
use Rattle.host_layout.proofs.LinkLemmas.{links_of-closed, walk-nil}
use Rattle.host_layout.proofs.templates.cycles.leads_to.Goals as goal

pub walk-requires-clause-closed : goal.walk-requires-clause-closed
walk-requires-clause-closed c = links_of-closed c.args.names.now.templates.now c.args.links.now c.requires

pub returns-in-None : goal.returns-in-None
returns-in-None c =
    sym (ap (λ found. list_any (nat_eq c.args.place) (walk (links_of c.args.names.now.templates.now) (option_to_list found ++ []))) (sym c.in-None.ensures)
    ∙ ap (list_any (nat_eq c.args.place)) (walk-nil (links_of c.args.names.now.templates.now)))
