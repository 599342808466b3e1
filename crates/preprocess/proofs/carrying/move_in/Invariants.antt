use Rattle.std.proofs.Common.{◌≡◌, map, take}
use Rattle.std.specs.Prelude.{option_and_then}
use Rattle.zbx_types.specs.Ids.{at_id}
use Rattle.value_cache.specs.Cells.{CellView}
use Rattle.value_cache.specs.Tokens.{CacheId}
use Rattle.preprocess.specs.Carry.{still_kept}
use Rattle.preprocess.specs.Draft.{AreIn}
use Rattle.preprocess.proofs.Moving.{Intact}
use Rattle.preprocess.proofs.carrying.move_in.Given as goal

abbrev pub invariant-loop-place : goal.invariant-loop-place
invariant-loop-place l = record {
  keeps : map (λ (c : CellView). c.keep) l.made.items ≡ map (λ (c : CellView). c.keep) l.fn.made.items;
  values : take l.place (map (λ (c : CellView). c.values) l.made.items) ≡ map (λ id. still_kept l.now (option_and_then (at_id l.fn.cells.items) id)) (take l.place l.olds);
  intact : Intact l.place l.olds l.fn.cells.items l.cells.items;
  of : (cache : CacheId) → AreIn cache l.fn.made.items → AreIn cache l.fn.cells.items → AreIn cache l.made.items;
  left : (cache : CacheId) → AreIn cache l.fn.cells.items → AreIn cache l.cells.items;
}
