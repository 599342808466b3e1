use Rattle.std.proofs.Common.{◌≡◌, drop}
use Rattle.value_cache.specs.Tokens.{CacheId, AreOf}
use Rattle.preprocess.specs.Cached.{visits_shown, tokens_shown}
use Rattle.preprocess.specs.Draft.{stored_at}
use Rattle.preprocess.proofs.draft.token_at.Given as goal

abbrev pub invariant-loop-visit : goal.invariant-loop-visit
invariant-loop-visit l = record {
  value : stored_at (visits_shown (drop l.visit-index l.visits)) l.id ≡ stored_at (visits_shown l.visits) l.id;
  of : (cache : CacheId) → AreOf cache (tokens_shown l.visits) → AreOf cache (tokens_shown (drop l.visit-index l.visits));
}
