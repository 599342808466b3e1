use Rattle.std.proofs.Common.{◌≡◌, [], drop}
use Rattle.serde_json.specs.View.{items_view}
use Rattle.json_form.specs.Lists.{read_on}
use Rattle.json_form.proofs.listed.read_all.Given as goal

abbrev pub invariant-loop-value : goal.invariant-loop-value
invariant-loop-value g l = read_on g.R.Element.reads l.path l.found.items (items_view (drop l.value-index l.values.items)) ≡ read_on g.R.Element.reads l.path [] (items_view l.values.items)
