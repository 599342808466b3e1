use Rattle.std.proofs.Common.{◌≡◌, ◌++◌, drop}
use Rattle.json_text.specs.Json.{json_size, items_size, members_size}
use Rattle.json_text.specs.Trees.{json_of, items_of, members_of}
use Rattle.json_path.specs.Contents.{within_items, within_members}
use Rattle.json_path.specs.Seen.{seen}
use Rattle.json_path.proofs.contents.+within.Given as goal

abbrev pub decreases-add_within : goal.decreases-add_within
decreases-add_within l = json_size (json_of l.tree.now)

abbrev pub decreases-add_within_items : goal.decreases-add_within_items
decreases-add_within_items l = items_size l.items.now

abbrev pub decreases-add_within_members : goal.decreases-add_within_members
decreases-add_within_members l = members_size l.members.now

abbrev pub invariant-add_within_items-loop-item : goal.invariant-add_within_items-loop-item
invariant-add_within_items-loop-item l = record {
  is : items_of l.item-items ≡ l.fn.items;
  rest : seen l.found.items ++ within_items (items_of (drop l.item-index l.item-items)) ≡ seen l.fn.found.items ++ within_items l.fn.items;
}

abbrev pub invariant-add_within_members-loop-member : goal.invariant-add_within_members-loop-member
invariant-add_within_members-loop-member l = record {
  is : members_of l.member-items ≡ l.fn.members;
  rest : seen l.found.items ++ within_members (members_of (drop l.member-index l.member-items)) ≡ seen l.fn.found.items ++ within_members l.fn.members;
}
