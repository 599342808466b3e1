use Rattle.std.proofs.Common.{ap₂}
use Rattle.base_state.proofs.telling.item_of.Goals as goal

pub returns : goal.returns
returns c = ap₂ (λ values steps. record { values = values; steps = steps }) (c.in_ok-values.ensures c.args.marks.now) c.in_ok-steps.ensures
