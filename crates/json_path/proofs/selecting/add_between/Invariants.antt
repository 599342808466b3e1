use Rattle.std.proofs.Common.{◌≡◌, ◌++◌, drop, pos}
use Rattle.json_text.specs.Trees.{items_of}
use Rattle.json_path.specs.Seen.{seen}
use Rattle.json_text.specs.Json.{item_list}
use Rattle.json_path.specs.Selecting.{elements_between}
use Rattle.json_path.proofs.selecting.add_between.Given as goal

abbrev pub invariant-loop-element : goal.invariant-loop-element
invariant-loop-element l = record {
  place : l.place ≡ pos l.element-index;
  rest : seen l.found.items ++ elements_between l.from l.to l.element-index (item_list (items_of (drop l.element-index l.elements)))
      ≡ seen l.fn.found.items ++ elements_between l.from l.to 0 (item_list (items_of l.elements));
}
