use Rattle.std.proofs.Common.{refl, subst, sym, [], ◌∷◌}
use Rattle.std.proofs.lemmas.List.Elements.{All-append, All-cons, All-nil}
use Rattle.value_cache.specs.Cells.{IsIn}
use Rattle.preprocess.specs.Draft.{AreIn}
use Rattle.preprocess.proofs.Keeping.{cells_on}
use Rattle.preprocess.proofs.cells.empty_cells.Goals as goal

pub loop-keep-preserved : goal.loop-keep-preserved
loop-keep-preserved c = record {
  kept = cells_on c.args.keeps.now c.loop-keep.cells.items c.push.new.self.items c.loop-keep.keep-index _ _ c.new.result c.loop-keep-test.true refl c.new.ensures.keep c.new.ensures.exact c.in_ok-push.ensures.items c.loop-keep.invariant.kept;
  of = λ cache. subst (AreIn cache) (sym c.in_ok-push.ensures.items)
      (All-append (IsIn cache) c.loop-keep.cells.items (c.new.result ∷ []) (c.loop-keep.invariant.of cache) (All-cons (IsIn cache) c.new.result [] (c.new.ensures.of cache) (All-nil (IsIn cache))));
}
