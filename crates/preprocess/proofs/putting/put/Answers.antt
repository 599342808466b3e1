use Rattle.std.proofs.Common.{subst, sym, IfSome}
use Rattle.value_cache.specs.Tokens.{IsOf}
use Rattle.preprocess.proofs.putting.put.Goals as goal

pub returns-in-Some-clause-of : goal.returns-in-Some-clause-of
returns-in-Some-clause-of c cache h k = c.put_value.ensures.of cache (subst (λ o. IfSome o (IsOf cache)) (sym c.in-Some.ensures.token) h) k
