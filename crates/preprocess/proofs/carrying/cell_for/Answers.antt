use Rattle.std.proofs.Common.{rules, ◌≡◌, Some}
use Rattle.zbx_types.specs.Ids.{at_id}
use Rattle.preprocess.proofs.InCache.{in_found}
use Rattle.preprocess.proofs.carrying.cell_for.Goals as goal

pub returns-in_default-clause-of : goal.returns-in_default-clause-of
returns-in_default-clause-of c = λ cache h. c.new.ensures.of cache

pub returns-in-None-clause-of : goal.returns-in-None-clause-of
returns-in-None-clause-of c = λ cache h. c.new-in-None.ensures.of cache

pub returns-in_ok-copy-in-Some-by_id-clause-of : goal.returns-in_ok-copy-in-Some-by_id-clause-of
returns-in_ok-copy-in-Some-by_id-clause-of c = λ cache h.
    let there : at_id c.args.cells.now c.in-Some.id ≡ Some c.in-Some-by_id.cell.now = search rules in
    c.with_keep.ensures.of cache (c.in_ok-copy-in-Some-by_id.ensures.of cache (in_found cache c.args.cells.now c.in-Some.id c.in-Some-by_id.cell.now there h))
