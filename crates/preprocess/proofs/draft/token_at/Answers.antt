use Rattle.std.proofs.Common.{◌∙◌}
use Rattle.preprocess.proofs.Caching.{of_on, stored_on}
use Rattle.preprocess.proofs.draft.token_at.Goals as goal

pub returns-then-visit-id-clause-of : goal.returns-then-visit-id-clause-of
returns-then-visit-id-clause-of c cache h = c.token.ensures.of cache (of_on cache c.args.visits.now c.loop-visit.visit-index c.visit-item.result _ c.loop-visit-test.true c.visit-item.is (c.loop-visit.invariant.of cache h)).0

pub loop-visit-preserved : goal.loop-visit-preserved
loop-visit-preserved c = record {
  value = stored_on c.args.visits.now c.loop-visit.visit-index c.args.id c.visit-item.result _ c.loop-visit-test.true c.visit-item.is c.if-visit-id.false ∙ c.loop-visit.invariant.value;
  of = λ cache h. (of_on cache c.args.visits.now c.loop-visit.visit-index c.visit-item.result _ c.loop-visit-test.true c.visit-item.is (c.loop-visit.invariant.of cache h)).1;
}
