use Rattle.std.proofs.Common.{subst, sym}
use Rattle.value_cache.specs.Tokens.{AreOf}
use Rattle.value_cache.proofs.Shown.{of_turned}
use Rattle.value_cache.proofs.cell.ItemCell.tokens.Goals as goal

pub returns-clause-of : goal.returns-clause-of
returns-clause-of c cache h =
    subst (AreOf cache) (sym c.as_slice.ensures) (of_turned cache c.self.inside.tokens.items (subst (λ cell. AreOf cache cell.tokens) (sym c.self.view_is) h))
