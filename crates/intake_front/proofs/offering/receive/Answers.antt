use Rattle.std.proofs.Common.{◌∙◌, ap}
use Rattle.std.specs.Prelude.{ℕ, max}
use Rattle.intake_front.proofs.Received.{received_parts}
use Rattle.intake_front.proofs.offering.receive.Goals as goal

pub returns-clause-taken : goal.returns-clause-taken
returns-clause-taken g c =
    let h = c.held.inside in
    let now = c.later-now.ensures ∙ ap (λ (m : ℕ). max h.now m) c.at.ensures in
    received_parts c.args.journal.now c.args.collection.now h.now h.tick h.table h.before h.entries.items h.bytes h.groups c.args.held.now c.offer.new.held c.args.batch.now c.offer.new.batch c.args.event.now
    c.later-now.result c.on.new.self c.in_ok-turn.turn c.in_ok-ticks.ticks c.in_ok-draft.draft c.stop_of.result c.offer.result
    now c.in_ok-turn.ensures.after c.in_ok-turn.ensures.turn c.in_ok-ticks.ensures.made c.in_ok-draft.ensures.made c.stop_of.ensures c.held.view_is c.offer.ensures.taken
