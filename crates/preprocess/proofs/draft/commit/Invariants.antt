use Rattle.std.proofs.Common.{◌≡◌, ℕ, length, map, option_map}
use Rattle.std.specs.Vec.Iter.{into_iter_items, into_iter_len}
use Rattle.zbx_types.specs.Ids.{at_id}
use Rattle.value_cache.specs.Tokens.{CacheId, AreOf}
use Rattle.preprocess.specs.Cached.{visits_shown, tokens_shown}
use Rattle.preprocess.specs.Draft.{AreApart, AreIn, HaveRoom, kept_of, kept_after, marks_after, visit_at}
use Rattle.preprocess.proofs.draft.commit.Given as goal

abbrev pub invariant-loop-visit : goal.invariant-loop-visit
invariant-loop-visit l = record {
  counted : into_iter_len l.visit-iterator ≡ length (into_iter_items l.visit-iterator);
  apart : AreApart (visits_shown (into_iter_items l.visit-iterator));
  room : HaveRoom l.cells.cells.items (visits_shown (into_iter_items l.visit-iterator));
  kept : (id : ℕ) → option_map (kept_after l.fn.now (visit_at (visits_shown (into_iter_items l.visit-iterator)) id)) (at_id (map kept_of l.cells.cells.items) id)
      ≡ option_map (kept_after l.fn.now (visit_at l.fn.draft.visits id)) (at_id (map kept_of l.fn.cells.cells.items) id);
  marked : (id : ℕ) → option_map (marks_after (visit_at (visits_shown (into_iter_items l.visit-iterator)) id)) (at_id l.cells.memories.items id)
      ≡ option_map (marks_after (visit_at l.fn.draft.visits id)) (at_id l.fn.cells.memories.items id);
  tokens : (cache : CacheId) → AreOf cache l.fn.draft.tokens → AreOf cache (tokens_shown (into_iter_items l.visit-iterator));
  of : (cache : CacheId) → AreOf cache l.fn.draft.tokens → AreIn cache l.fn.cells.cells.items → AreIn cache l.cells.cells.items;
}
