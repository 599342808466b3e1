use Rattle.std.proofs.Common.{Option, subst}
use Rattle.std.specs.Prelude.{IfSome}
use Rattle.value_cache.specs.Tokens.{AreOf}
use Rattle.preprocess.specs.Cached.{DraftView}
use Rattle.entry_step.proofs.stepping.settle.Goals as goal

pub returns-in-Some-clause-of : goal.returns-in-Some-clause-of
returns-in-Some-clause-of c = λ cache h k. c.commit.ensures.of cache (subst (λ (o : Option DraftView). IfSome o (λ d. AreOf cache d.tokens)) c.in-Some.is h) k
