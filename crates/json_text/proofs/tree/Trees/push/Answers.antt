use Rattle.std.proofs.Common.{ap, ◌∙◌}
use Rattle.json_text.specs.Json.{add}
use Rattle.json_text.specs.Trees.{json_of, items_of}
use Rattle.json_text.proofs.TreeLemmas.{items_of-snoc}
use Rattle.json_text.proofs.tree.Trees.push.Goals as goal

pub returns-clause-ok : goal.returns-clause-ok
returns-clause-ok c = ap items_of c.in_ok-push.ensures.items ∙ items_of-snoc c.self.inside.trees.items c.args.tree ∙ ap (λ js. add js (json_of c.args.tree)) c.self.view_is
