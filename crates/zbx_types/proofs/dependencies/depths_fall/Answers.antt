use Rattle.std.proofs.Common.{sym, subst, Bool}
use Rattle.std.specs.Bool.{Decides}
use Rattle.zbx_types.specs.Masters.{DepthsFall}
use Rattle.zbx_types.proofs.MasterLemmas.{fall_decided}
use Rattle.zbx_types.proofs.dependencies.depths_fall.Goals as goal

pub returns : goal.returns
returns c = subst (λ (b : Bool). Decides b (DepthsFall c.args.conf.now)) (sym c.all_fall.ensures) (fall_decided c.args.conf.now)
