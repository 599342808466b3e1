use Rattle.std.proofs.Common.{rules, ◌≡◌, Some}
use Rattle.zbx_types.specs.Ids.{at_id}
use Rattle.preprocess.proofs.InCache.{in_found}
use Rattle.entry_step.proofs.exchange.same_cell.Goals as goal

pub same-requires-clause-own : goal.same-requires-clause-own
same-requires-clause-own c =
    let there : at_id c.args.items.now.cells.items c.args.row.now.id ≡ Some c.in-Some.cell.now = search rules in
    in_found c.args.cache.now c.args.items.now.cells.items c.args.row.now.id c.in-Some.cell.now there c.requires.own
