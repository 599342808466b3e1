use Rattle.std.proofs.Common.{◌≡◌, [], drop}
use Rattle.serde_json.specs.View.{items_view}
use Rattle.json_form.specs.Lists.{following_on}
use Rattle.json_form.proofs.listed.follow_all.Given as goal

abbrev pub invariant-loop-value : goal.invariant-loop-value
invariant-loop-value g l =
    following_on g.R.Following.after g.R.Following.reads l.path l.past l.found.items (items_view (drop l.value-index l.values.items))
    ≡ following_on g.R.Following.after g.R.Following.reads l.path l.fn.past [] (items_view l.values.items)
