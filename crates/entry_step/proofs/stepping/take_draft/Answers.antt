use Rattle.std.proofs.Common.{List, ℕ, subst, filter}
use Rattle.value_cache.specs.Cells.{CellView}
use Rattle.entry_step.specs.Kept.{still_to_come}
use Rattle.entry_step.specs.Changes.{is_asked, RunsOver}
use Rattle.entry_step.proofs.stepping.take_draft.Goals as goal

pub returns-in-Ok-clause-made : goal.returns-in-Ok-clause-made
returns-in-Ok-clause-made g c = record {
  judged = c.in_ok-draft.draft.records;
  runs = subst (λ (ids : List ℕ). RunsOver c.args.ready.now c.args.occasion.now c.args.items.now.cells.items (still_to_come c.args.coming) c.args.problems.now.items (filter (is_asked c.args.ready.now.conf c.args.coming) ids) c.in_ok-draft.draft.records c.evaluated.new.problems.items)
      c.over.ensures
      (subst (λ (cells : List CellView). RunsOver c.args.ready.now c.args.occasion.now cells (still_to_come c.args.coming) c.args.problems.now.items (filter (is_asked c.args.ready.now.conf c.args.coming) c.over.result.now) c.in_ok-draft.draft.records c.evaluated.new.problems.items)
      c.cells.ensures c.in_ok-draft.ensures.runs);
  records = c.in-Ok.ensures;
}

pub returns-in-Ok-clause-of : goal.returns-in-Ok-clause-of
returns-in-Ok-clause-of g c = c.settle.ensures.of c.args.cache.now c.requires.tokens c.requires.cached
