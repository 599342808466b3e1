use Rattle.std.proofs.Common.{rules, ◌≡◌, Some}
use Rattle.zbx_types.specs.Ids.{at_id}
use Rattle.preprocess.proofs.InCache.{in_found}
use Rattle.entry_step.proofs.seen.latest_of.Goals as goal

pub latest_in-requires-clause-cell : goal.latest_in-requires-clause-cell
latest_in-requires-clause-cell c =
    let there : at_id c.args.calls.now.items.now c.args.item ≡ Some c.in-Some.cell.now = search rules in
    in_found c.args.calls.now.cache.now c.args.calls.now.items.now c.args.item c.in-Some.cell.now there c.requires.0
