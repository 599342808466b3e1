use Rattle.std.proofs.Common.{◌≡◌, ◌++◌, drop}
use Rattle.json_path.specs.Seen.{seen}
use Rattle.json_text.specs.Json.{list}
use Rattle.json_text.specs.Written.{json_written}
use Rattle.json_path.specs.Results.{items_from}
use Rattle.json_path.proofs.SelectionLemmas.{rest_items}
use Rattle.json_path.proofs.results.array.Given as goal

abbrev pub invariant-loop-value : goal.invariant-loop-value
invariant-loop-value l = l.out ++ rest_items l.first (items_from (seen (drop l.value-index l.values))) ≡ json_written (list (items_from (seen l.values)))
