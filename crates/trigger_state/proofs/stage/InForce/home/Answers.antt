use Rattle.trigger_state.proofs.Origins.{home_told}
use Rattle.trigger_state.proofs.stage.InForce.home.Goals as goal

pub returns-in-Some : goal.returns-in-Some
returns-in-Some c = home_told _ c.args.self.now c.args.event c.in-Some.place c.self.view_is (c.in-Some.ensures c.self.inside.conf c.self.invariant)
