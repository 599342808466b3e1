use Rattle.trigger_state.proofs.Origins.{rank_told}
use Rattle.trigger_state.proofs.stage.InForce.rank.Goals as goal

pub returns-in-Some : goal.returns-in-Some
returns-in-Some c = rank_told _ c.args.self.now c.args.event c.in-Some.place c.self.view_is (c.in-Some.ensures c.self.inside.conf c.self.invariant)
