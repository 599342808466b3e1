use Rattle.std.proofs.Common.{◌≡◌, ◌++◌, map, drop}
use Rattle.preprocess.specs.Cells.{empty}
use Rattle.value_cache.specs.Tokens.{CacheId}
use Rattle.preprocess.specs.Draft.{kept_of, AreIn}
use Rattle.preprocess.proofs.cells.empty_cells.Given as goal

abbrev pub invariant-loop-keep : goal.invariant-loop-keep
invariant-loop-keep l = record {
  kept : map kept_of l.cells.items ++ map empty (drop l.keep-index l.keeps) ≡ map empty l.keeps;
  of : (cache : CacheId) → AreIn cache l.cells.items;
}
