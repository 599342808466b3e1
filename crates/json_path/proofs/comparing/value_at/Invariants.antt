use Rattle.std.proofs.Common.{◌≡◌, drop}
use Rattle.json_text.specs.Trees.{json_of}
use Rattle.json_path.specs.Comparing.{value_at}
use Rattle.json_path.proofs.comparing.value_at.Given as goal

abbrev pub invariant-loop-name : goal.invariant-loop-name
invariant-loop-name l = value_at (drop l.name-index l.names) (json_of l.value) ≡ value_at l.names (json_of l.tree)
