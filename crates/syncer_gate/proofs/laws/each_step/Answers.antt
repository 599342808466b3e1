use Rattle.syncer_gate.proofs.Order.{each_step as the_law}
use Rattle.syncer_gate.proofs.laws.each_step.Goals as goal

pub returns : goal.returns
returns c = the_law
