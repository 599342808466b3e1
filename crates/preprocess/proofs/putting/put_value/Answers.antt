use Rattle.std.proofs.Common.{◌-◌, arith}
use Rattle.preprocess.proofs.InCache.{in_set, in_at}
use Rattle.preprocess.proofs.putting.put_value.Goals as goal

pub returns-clause-of : goal.returns-clause-of
returns-clause-of c cache h k =
    let cells = c.args.cells.now.items in
    in_set cache cells (c.args.item - 1) c.insert_token.new.self k
    (c.insert_token.ensures.of cache (in_at cache cells (c.args.item - 1) c.index_mut.result.now (omega arith) c.index_mut.ensures.value k) h)
