use Rattle.std.proofs.Common.{◌-◌, sym, arith}
use Rattle.intake_front.proofs.Misfits.{none_taking}
use Rattle.intake_front.proofs.fitting.is_taking_after.Goals as goal

pub returns-in-None : goal.returns-in-None
returns-in-None c = let missing = c.in-None.ensures.lookup in sym (none_taking c.args.confs.now (c.args.configs - 1) c.args.item (omega arith))
