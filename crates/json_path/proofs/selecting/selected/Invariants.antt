use Rattle.std.proofs.Common.{◌≡◌, ◌∷◌, [], drop}
use Rattle.json_text.specs.Trees.{json_of}
use Rattle.json_path.specs.Seen.{seen}
use Rattle.json_path.specs.Selecting.{selected_from}
use Rattle.json_path.proofs.selecting.selected.Given as goal

abbrev pub invariant-loop-segment : goal.invariant-loop-segment
invariant-loop-segment l = selected_from (drop l.segment-index l.segments) (seen l.values.items) ≡ selected_from l.segments (json_of l.tree ∷ [])
