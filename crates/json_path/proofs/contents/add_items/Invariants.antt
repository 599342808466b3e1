use Rattle.std.proofs.Common.{◌≡◌, ◌++◌, drop}
use Rattle.json_text.specs.Trees.{items_of}
use Rattle.json_text.specs.Json.{item_list}
use Rattle.json_path.specs.Seen.{seen}
use Rattle.json_path.proofs.contents.add_items.Given as goal

abbrev pub invariant-loop-item : goal.invariant-loop-item
invariant-loop-item l = seen l.found.items ++ item_list (items_of (drop l.item-index l.items)) ≡ seen l.fn.found.items ++ item_list (items_of l.items)
