use Rattle.preprocess.proofs.InCache.{in_set, in_taken}
use Rattle.preprocess.proofs.Moving.{others_stay}
use Rattle.preprocess.proofs.carrying.move_one.Goals as goal

pub returns-clause-others : goal.returns-clause-others
returns-clause-others c = λ id ne.
    others_stay c.args.cells.now.items c.exchange_at.new.items.items c.args.old c.unwrap_or.result id c.new-cell.result c.unwrap_or.ensures c.exchange_at.ensures.items ne

pub returns-clause-of : goal.returns-clause-of
returns-clause-of c = λ cache h k.
    in_set cache c.args.made.now.items c.args.place c.with_keep.result h
    (c.with_keep.ensures.of cache
    (in_taken cache c.args.cells.now.items c.unwrap_or.result c.new-cell.result c.exchange_at.new.one c.exchange_at.ensures.one k (c.new-cell.ensures.of cache)))
