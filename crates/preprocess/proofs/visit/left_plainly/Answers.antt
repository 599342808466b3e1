use Rattle.std.proofs.Common.{refl}
use Rattle.preprocess.proofs.Walking.{plain_visit}
use Rattle.preprocess.proofs.visit.left_plainly.Goals as goal

pub returns : goal.returns
returns c = λ memory. plain_visit c.args.item.now memory c.args.value.now c.args.time c.args.number c.args.id c.in_ok-outcome.outcome _ c.new.result c.requires c.in_ok-outcome.ensures c.new.ensures refl
