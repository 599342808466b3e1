use Rattle.std.proofs.Common.{◌∙◌}
use Rattle.server_run.proofs.Batches.{base_still, took, still_ready}
use Rattle.server_run.proofs.taking.take_batch.Goals as goal

pub returns-clause-took : goal.returns-clause-took
returns-clause-took g c =
    let m = c.commit-answers.ensures in
    let d = c.deliver_all-stop.ensures in
    let out = c.as_slice.ensures in
    let t = c.gather-count.ensures in
    took g.D.Disk.tells c.args.collection.now c.args.front.now c.gather-count.new.front c.commit-answers.new.self (g.W.Wire.tells c.args.wire.now) (g.W.Wire.tells c.gather-count.new.wire) (g.W.Wire.tells c.deliver_all-stop.new.wire)
    c.as_slice.result.now c.deliver_all-stop.result m.state (λ well. (out ∙ (m.done well).0, (m.done well).1, (m.done well).2)) (λ broken. (out ∙ (m.failed broken).0, (m.failed broken).1, (m.failed broken).2, (m.failed broken).3)) m.durable m.any_moment m.later m.told d.stop d.shows d.left d.given d.later c.args.most c.gather-count.result.0 c.gather-count.result.1 t.gathered t.few t.fewer t.some

pub returns-clause-base : goal.returns-clause-base
returns-clause-base g c = base_still c.args.collection.now c.args.front.now c.gather-count.new.front c.commit-answers.new.self (g.W.Wire.tells c.args.wire.now) (g.W.Wire.tells c.gather-count.new.wire) c.gather-count.result.0 c.gather-count.result.1 c.gather-count.ensures.gathered c.commit-answers.ensures.base

pub returns-clause-state : goal.returns-clause-state
returns-clause-state g c = λ other.
    let m = c.commit-answers.ensures in
    let d = c.deliver_all-stop.ensures in
    let out = c.as_slice.ensures in
    still_ready g.D.Disk.tells c.args.collection.now c.args.front.now c.gather-count.new.front c.commit-answers.new.self (g.W.Wire.tells c.args.wire.now) (g.W.Wire.tells c.gather-count.new.wire) (g.W.Wire.tells c.deliver_all-stop.new.wire)
    c.as_slice.result.now c.deliver_all-stop.result m.state (λ well. (out ∙ (m.done well).0, (m.done well).1, (m.done well).2)) (λ broken. (out ∙ (m.failed broken).0, (m.failed broken).1, (m.failed broken).2, (m.failed broken).3)) m.durable m.any_moment m.later m.told d.stop d.shows d.left d.given d.later c.gather-count.result.0 c.gather-count.result.1 c.gather-count.ensures.gathered other
