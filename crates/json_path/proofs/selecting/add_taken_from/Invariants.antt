use Rattle.std.proofs.Common.{◌≡◌, ◌++◌, drop, flat_map}
use Rattle.json_path.specs.Seen.{seen}
use Rattle.json_path.specs.Selecting.{taken_by}
use Rattle.json_path.proofs.selecting.add_taken_from.Given as goal

abbrev pub invariant-loop-value : goal.invariant-loop-value
invariant-loop-value l = seen l.found.items ++ flat_map (taken_by l.selector) (seen (drop l.value-index l.values)) ≡ seen l.fn.found.items ++ flat_map (taken_by l.selector) (seen l.values)
