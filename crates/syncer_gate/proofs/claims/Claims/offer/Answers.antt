use Rattle.syncer_gate.proofs.Offered.{core_offered}
use Rattle.syncer_gate.proofs.claims.Claims.offer.Goals as goal

pub returns-clause-step : goal.returns-clause-step
returns-clause-step c = λ entries more. core_offered c.args.self.now c.grow.new.self c.args.count entries more c.in_ok-grow.ensures.ok
