use Rattle.std.proofs.Common.{◌≡◌, ◌++◌, map, drop}
use Rattle.std.specs.Prelude.{option_and_then}
use Rattle.zbx_types.specs.Ids.{at_id}
use Rattle.value_cache.specs.Cells.{CellView}
use Rattle.value_cache.specs.Tokens.{CacheId}
use Rattle.preprocess.specs.Carry.{still_kept}
use Rattle.preprocess.specs.Draft.{AreIn}
use Rattle.preprocess.proofs.carrying.copied_cells.Given as goal

abbrev pub invariant-loop-place : goal.invariant-loop-place
invariant-loop-place l = record {
  keeps : map (λ (c : CellView). c.keep) l.made.items ++ drop l.place l.keeps ≡ l.keeps;
  values : map (λ (c : CellView). c.values) l.made.items ++ map (λ id. still_kept l.now (option_and_then (at_id l.cells) id)) (drop l.place l.olds)
      ≡ map (λ id. still_kept l.now (option_and_then (at_id l.cells) id)) l.olds;
  of : (cache : CacheId) → AreIn cache l.cells → AreIn cache l.made.items;
}
