use Rattle.std.proofs.Common.{◌≡◌, ◌++◌, [], drop, map}
use Rattle.serde_json.specs.View.{items_view}
use Rattle.json_form.specs.Lists.{named_on}
use Rattle.json_form.proofs.listed.name_all.Given as goal

abbrev pub invariant-loop-value : goal.invariant-loop-value
invariant-loop-value g l = record {
  gives : named_on g.R.Named.name g.R.Named.reads l.path l.taken l.found.items (items_view (drop l.value-index l.values.items))
      ≡ named_on g.R.Named.name g.R.Named.reads l.path l.fn.taken [] (items_view l.values.items);
  taken : l.taken ≡ l.fn.taken ++ map g.R.Named.name l.found.items;
}
