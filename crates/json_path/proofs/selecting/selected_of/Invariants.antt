use Rattle.std.proofs.Common.{◌≡◌, ◌++◌, drop, flat_map}
use Rattle.json_path.specs.Seen.{seen}
use Rattle.json_path.specs.Selecting.{selected_by}
use Rattle.json_path.proofs.selecting.selected_of.Given as goal

abbrev pub invariant-loop-value : goal.invariant-loop-value
invariant-loop-value l = seen l.found.items ++ flat_map (selected_by l.segment) (seen (drop l.value-index l.values)) ≡ flat_map (selected_by l.segment) (seen l.values)
