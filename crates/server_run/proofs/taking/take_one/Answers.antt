use Rattle.std.proofs.Common.{◌≡◌, rules, arith}
use Rattle.std.specs.Prelude.{Err}
use Rattle.server_run.proofs.Batches.{gathered_more, gathered_lost, gathered_failed}
use Rattle.server_run.proofs.taking.take_one.Goals as goal

pub returns-in_err-event-clause-gathered : goal.returns-in_err-event-clause-gathered
returns-in_err-event-clause-gathered g c = λ begun before count so_far.
    let failed : c.from_residual.result ≡ Err c.in_err-event.field-0.0 = search rules in
    let n = c.next.ensures in
    gathered_failed c.args.collection.now begun c.args.front.now c.args.front.now before (g.W.Wire.tells c.args.wire.now) (g.W.Wire.tells c.next.new.self) count so_far c.from_residual.result c.in_err-event.field-0.0 failed
    c.in_err-event.ensures.given n.sent n.sends n.closed n.unsent

pub returns-in-Ok-clause-gathered : goal.returns-in-Ok-clause-gathered
returns-in-Ok-clause-gathered g c = λ begun before count so_far.
    let n = c.next.ensures in
    let t = c.in-Ok.ensures in
    let e = c.in_ok-event.event in
    gathered_more c.args.collection.now begun c.args.front.now c.take.new.self before (g.W.Wire.tells c.args.wire.now) (g.W.Wire.tells c.next.new.self) count so_far e c.in-Ok.stop
    (record { given = omega (arith, c.in_ok-event.ensures.given); told = c.in_ok-event.ensures.event; sent_stays = n.sent; sends_stay = n.sends; closed_stays = n.closed; unsent_stays = n.unsent })
    c.take.ensures.journal t.stop t.after t.taken t.keeps

pub returns-clause-gathered : goal.returns-clause-gathered
returns-clause-gathered g c = λ begun before count so_far.
    let n = c.next.ensures in
    let e = c.in_ok-event.event in
    gathered_lost c.args.collection.now begun c.args.front.now c.take.new.self before (g.W.Wire.tells c.args.wire.now) (g.W.Wire.tells c.next.new.self) count so_far e
    (record { given = omega (arith, c.in_ok-event.ensures.given); told = c.in_ok-event.ensures.event; sent_stays = n.sent; sends_stay = n.sends; closed_stays = n.closed; unsent_stays = n.unsent })
    c.take.ensures.journal c.take.ensures.kept c.in-Err.ensures.err
