use Rattle.std.proofs.Common.{◌≡◌, get_or, arith}
use Rattle.alert_run.proofs.Splitting.{notes_step, notes_grow, grows}
use Rattle.alert_run.proofs.notes.messages.Goals as goal

pub loop-byte-preserved : goal.loop-byte-preserved
loop-byte-preserved c =
    let all = c.args.bytes.now in let i = c.loop-byte.byte-index in record {
      so_far = notes_step all i c.loop-byte.lines c.take.new.self c.loop-byte-test.true c.in_ok-take.ensures.ok c.loop-byte.invariant.so_far;
      few = omega (arith, notes_grow c.loop-byte.lines c.take.new.self (get_or all i 0) c.in_ok-take.ensures.ok, c.loop-byte.invariant.few);
      small = omega (arith, grows c.loop-byte.lines c.take.new.self (get_or all i 0) c.in_ok-take.ensures.ok, c.loop-byte.invariant.small);
    }
