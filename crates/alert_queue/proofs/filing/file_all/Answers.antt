use Rattle.std.proofs.Common.{◌≤◌, ap, arith, length, length-set}
use Rattle.alert_queue.proofs.Filings.{one_filed}
use Rattle.alert_queue.proofs.filing.file_all.Goals as goal

pub loop-place-preserved : goal.loop-place-preserved
loop-place-preserved c =
    let ready = c.loop-place.ready in
    let place = c.loop-place.place in
    record {
      filed = one_filed c.args.lanes.now ready c.loop-place.waiting c.refile.new.ready c.refile.new.waiting place c.index-lanes-place.result c.loop-place.invariant.filed
          c.loop-place-test.true c.loop-place.invariant.room c.index-lanes-place.is c.refile.ensures;
      room = omega (arith, c.loop-place.invariant.room, ap length c.refile.ensures.ready_is, length-set ready place c.refile.ensures.key);
    }
