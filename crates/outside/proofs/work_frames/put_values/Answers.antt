use Rattle.std.proofs.Common.{◌-◌, ◌+◌, arith}
use Rattle.outside.proofs.WorkLemmas.{listed_step, behind_step}
use Rattle.outside.proofs.work_frames.put_values.Goals as goal

pub loop-done-preserved : goal.loop-done-preserved
loop-done-preserved c =
    let less = c.args.count - (c.loop-done.done + 1) in
    let more = c.args.count - c.loop-done.done in
    let test = c.loop-done-test.true in
    record {
      text = listed_step _ _ _ _ _ _ less more _ (omega (arith, test)) (omega (arith, test)) c.loop-done.invariant.text c.in_ok-next.ensures.text c.in_ok-next.ensures.behind c.in_ok-put_comma.ensures;
      behind = behind_step _ _ less more _ (omega (arith, test)) c.in_ok-next.ensures.behind c.loop-done.invariant.behind;
    }
