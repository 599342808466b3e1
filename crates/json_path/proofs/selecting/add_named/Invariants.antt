use Rattle.std.proofs.Common.{◌≡◌, ◌++◌, drop, flat_map}
use Rattle.std.specs.Option.{option_to_list}
use Rattle.json_text.specs.Trees.{json_of}
use Rattle.json_path.specs.Seen.{seen}
use Rattle.json_path.specs.Comparing.{member_named}
use Rattle.json_path.proofs.selecting.add_named.Given as goal

abbrev pub invariant-loop-name : goal.invariant-loop-name
invariant-loop-name l = seen l.found.items ++ flat_map (λ name. option_to_list (member_named name (json_of l.tree))) (drop l.name-index l.names)
    ≡ seen l.fn.found.items ++ flat_map (λ name. option_to_list (member_named name (json_of l.tree))) l.names
