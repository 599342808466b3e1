use Rattle.std.proofs.Common.{◌≡◌, ◌++◌, ◌∷◌, ◌+◌, drop}
use Rattle.json_text.specs.Json.{json_size, items_size, members_size}
use Rattle.json_text.specs.Parts.{IsGrown}
use Rattle.json_text.specs.Trees.{json_of, items_of, members_of}
use Rattle.json_text.specs.Written.{items_written, members_written}
use Rattle.json_text.proofs.WrittenLemmas.{rest_items, rest_members}
use Rattle.json_text.proofs.writing.+write.Given as goal

abbrev pub decreases-put_items : goal.decreases-put_items
decreases-put_items l = items_size l.items.now

abbrev pub decreases-put_member : goal.decreases-put_member
decreases-put_member l = json_size (json_of l.member.now.value) + 1

abbrev pub decreases-put_members : goal.decreases-put_members
decreases-put_members l = members_size l.members.now

abbrev pub decreases-put_tree : goal.decreases-put_tree
decreases-put_tree l = json_size (json_of l.tree.now)

abbrev pub invariant-put_items-loop-tree : goal.invariant-put_items-loop-tree
invariant-put_items-loop-tree l = record {
  is : items_of l.tree-items ≡ l.fn.items;
  rest : l.out ++ rest_items l.first (drop l.tree-index l.tree-items) ≡ l.fn.out ++ 91 ∷ items_written l.fn.items;
  grown : IsGrown l.fn.out l.out;
}

abbrev pub invariant-put_members-loop-member : goal.invariant-put_members-loop-member
invariant-put_members-loop-member l = record {
  is : members_of l.member-items ≡ l.fn.members;
  rest : l.out ++ rest_members l.first (drop l.member-index l.member-items) ≡ l.fn.out ++ 123 ∷ members_written l.fn.members;
  grown : IsGrown l.fn.out l.out;
}
