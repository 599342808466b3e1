use Rattle.std.proofs.Common.{◌≡◌, ◌++◌, drop, flat_map}
use Rattle.std.specs.Option.{option_to_list}
use Rattle.json_text.specs.Trees.{items_of}
use Rattle.json_path.specs.Seen.{seen}
use Rattle.json_text.specs.Json.{item_list}
use Rattle.json_path.specs.Selecting.{element_at}
use Rattle.json_path.proofs.selecting.add_indexed.Given as goal

abbrev pub invariant-loop-place : goal.invariant-loop-place
invariant-loop-place l = seen l.found.items ++ flat_map (λ place. option_to_list (element_at (item_list (items_of l.elements)) place)) (drop l.place-index l.places)
    ≡ seen l.fn.found.items ++ flat_map (λ place. option_to_list (element_at (item_list (items_of l.elements)) place)) l.places
