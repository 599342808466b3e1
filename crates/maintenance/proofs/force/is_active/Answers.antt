use Rattle.std.proofs.Common.{arith}
use Rattle.maintenance.proofs.force.is_active.Goals as goal

pub returns : goal.returns
returns c =
    let e = c.in_some_period.ensures in
    (λ t. (omega arith, omega arith, e.0 t), λ h. e.1 h.2)
