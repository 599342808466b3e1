use Rattle.std.proofs.Common.{subst, sym}
use Rattle.value_cache.specs.Tokens.{AreOf}
use Rattle.value_cache.proofs.Shown.{of_reversed, of_turned}
use Rattle.value_cache.proofs.cell.ItemCell.moved.Goals as goal

pub tokens_moved-requires : goal.tokens_moved-requires
tokens_moved-requires c =
    subst (AreOf c.args.from.now) (sym c.as_slice.ensures) (of_turned c.args.from.now c.self.inside.tokens.items (subst (λ cell. AreOf c.args.from.now cell.tokens) (sym c.self.view_is) c.requires))

pub returns-clause-of : goal.returns-clause-of
returns-clause-of c = of_reversed c.args.to.now c.of.result.items (subst (AreOf c.args.to.now) (sym c.of.ensures) c.in_ok-tokens_moved.ensures.of)
