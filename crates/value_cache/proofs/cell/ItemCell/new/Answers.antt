use Rattle.std.proofs.Common.{ap, reverse, subst, sym}
use Rattle.std.proofs.lemmas.List.Elements.{All-nil}
use Rattle.value_cache.specs.Tokens.{IsOf, AreOf, values_of}
use Rattle.value_cache.proofs.Pruning.{empty_exact}
use Rattle.value_cache.proofs.cell.ItemCell.new.Goals as goal

pub returns-clause-exact : goal.returns-clause-exact
returns-clause-exact c = empty_exact _ (ap (λ ts. reverse (values_of ts)) c.new.ensures)

pub returns-clause-of : goal.returns-clause-of
returns-clause-of c cache = subst (λ ts. AreOf cache (reverse ts)) (sym c.new.ensures) (All-nil (IsOf cache))
