use Rattle.std.proofs.Common.{sym, ◌∙◌, ap}
use Rattle.intake_front.specs.Staging.{settled}
use Rattle.intake_front.specs.declared.staging.Staged.{Staged}
use Rattle.intake_front.proofs.settling.settle.Goals as goal

pub returns-in-OnlyTick-clause-value : goal.returns-in-OnlyTick-clause-value
returns-in-OnlyTick-clause-value c = c.only_tick.ensures.value c.args.last ∙ ap (λ (s : Staged). settled s c.args.ticks c.args.draft c.args.last c.args.added) (sym c.in-OnlyTick.is)
