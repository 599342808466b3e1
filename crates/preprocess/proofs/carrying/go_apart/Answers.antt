use Rattle.preprocess.proofs.Moving.{apart_none, spent_none, apart_on, spent_on, all_apart, on_true}
use Rattle.std.proofs.Common.{refl, arith}
use Rattle.preprocess.proofs.carrying.go_apart.Goals as goal

pub loop-old-init : goal.loop-old-init
loop-old-init c = record { apart = apart_none c.args.olds.now; spent = spent_none c.args.olds.now _ }

pub loop-old-preserved : goal.loop-old-preserved
loop-old-preserved c =
    let claims = on_true c.claim.result _ c.claim.ensures c.if-not-claim.false in
    record {
      apart = apart_on c.args.olds.now c.loop-old.old-index _ _ c.loop-old.free.items c.claim.new.free.items c.loop-old-test.true refl claims c.loop-old.invariant.apart c.loop-old.invariant.spent;
      spent = spent_on c.args.olds.now c.loop-old.old-index _ _ c.loop-old.free.items c.claim.new.free.items c.loop-old-test.true refl claims c.loop-old.invariant.spent;
    }

pub returns : goal.returns
returns c = all_apart c.args.olds.now c.loop-old.old-index (omega (arith, c.loop-old-test.false)) c.loop-old.invariant.apart
