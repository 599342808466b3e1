use Rattle.std.proofs.Common.{arith, add-one}
use Rattle.expr_parser.proofs.KeyRuns.{key_more}
use Rattle.expr_parser.proofs.keys.span.Goals as goal

pub loop-byte-preserved : goal.loop-byte-preserved
loop-byte-preserved c = record {
  count = omega arith;
  few = omega arith;
  leads = rw add-one (key_more c.args.from c.loop-byte.spot c.in-Some.on c.args.rest.now c.loop-byte.byte-index (omega arith) c.loop-byte.invariant.leads c.in-Some.ensures);
}
