use Rattle.syncer_gate.proofs.Order.{every_schedule as the_law}
use Rattle.syncer_gate.proofs.laws.every_schedule.Goals as goal

pub returns : goal.returns
returns c = the_law
