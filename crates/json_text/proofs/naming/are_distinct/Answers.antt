use Rattle.std.proofs.Common.{sym, arith}
use Rattle.json_text.proofs.Names.{distinct_step}
use Rattle.json_text.proofs.naming.are_distinct.Goals as goal

pub loop-pair-preserved : goal.loop-pair-preserved
loop-pair-preserved c = record {
  count = omega arith;
  distinct = distinct_step c.args.pairs.now c.loop-pair.pair-index c.pair-item.result (omega arith) c.pair-item.is c.loop-pair.invariant.distinct (rw (sym c.loop-pair.invariant.count) (sym c.if-has.ensures));
}
