use Rattle.std.proofs.Common.{arith, refl, sym, Err}
use Rattle.std.specs.Prelude.{None}
use Rattle.server_run.specs.Statuses.{anywhere}
use Rattle.server_run.proofs.Batches.{gathered_start, gathered_by, gathered_of, more_of}
use Rattle.server_run.proofs.taking.gather.Goals as goal

pub loop-count-init : goal.loop-count-init
loop-count-init g c = record { same = refl; later = omega arith; gathered = gathered_start _ _ _ c.requires.idle }

pub returns-in-Err-clause-gathered : goal.returns-in-Err-clause-gathered
returns-in-Err-clause-gathered g c =
    let i = c.loop-count.invariant in
    let w = g.W.Wire.tells c.args.wire.now in
    let w' = g.W.Wire.tells c.take_one.new.wire in
    let n = c.loop-count.count in
    let so_far = gathered_of c.args.collection.now c.loop-count.collection c.args.front.now c.loop-count.front w (g.W.Wire.tells c.loop-count.wire) n None None anywhere (sym i.same) i.gathered in
    gathered_by _ _ _ _ _ _ c.in-Err.trouble
    (more_of c.loop-count.collection c.args.collection.now c.args.front.now c.take_one.new.front w w' n (Err c.in-Err.trouble) i.same (c.in-Err.ensures.gathered c.args.front.now w n so_far))
