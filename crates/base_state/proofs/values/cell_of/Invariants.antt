use Rattle.std.proofs.Common.{◌≡◌, map, reverse, take}
use Rattle.value_cache.specs.Cells.{trim, IsIn}
use Rattle.base_laws.specs.Bases.{read_value}
use Rattle.base_state.proofs.values.cell_of.Given as goal

abbrev pub invariant-loop-value : goal.invariant-loop-value
invariant-loop-value l = record {
  keep : l.cell.keep ≡ l.fn.keep;
  values : l.cell.values ≡ trim l.fn.keep l.now (reverse (map (read_value l.value_type) (take l.value-index l.values)));
  of : IsIn l.cache l.cell;
}
