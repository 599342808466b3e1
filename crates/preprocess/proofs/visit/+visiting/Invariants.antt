use Rattle.std.proofs.Common.{◌≡◌, ◌++◌, ◌+◌, ◌-◌, ◌*◌, drop, flat_map}
use Rattle.value_cache.specs.Tokens.{AreOf}
use Rattle.preprocess.specs.Cached.{visits_shown, tokens_shown}
use Rattle.preprocess.specs.Visits.{memory_in}
use Rattle.preprocess.specs.Walks.{walk}
use Rattle.preprocess.proofs.visit.+visiting.Given as goal

abbrev pub decreases-go_through : goal.decreases-go_through
decreases-go_through l = 2 * l.down + 1

abbrev pub decreases-visit_below : goal.decreases-visit_below
decreases-visit_below l = 2 * l.down

abbrev pub invariant-visit_below-loop-id : goal.invariant-visit_below-loop-id
invariant-visit_below-loop-id l = record {
  shown : visits_shown l.visits ++ flat_map (λ d. walk l.conf (memory_in l.memories) l.time l.number (l.down - 1) d l.value) (drop l.id-index l.ids)
      ≡ visits_shown l.fn.visits ++ flat_map (λ d. walk l.conf (memory_in l.memories) l.time l.number (l.down - 1) d l.value) l.ids;
  of : AreOf l.cache (tokens_shown l.fn.visits) → AreOf l.cache (tokens_shown l.visits);
}
