use Rattle.std.proofs.Common.{arith, ap}
use Rattle.json_text.specs.Json.{items_size, members_size}
use Rattle.json_text.proofs.WrittenLemmas.{item_smaller, member_smaller}
use Rattle.json_text.proofs.writing.+write.Goals as goal

pub put_items-put_tree-requires : goal.put_items-put_tree-requires
put_items-put_tree-requires t c =
    let s = item_smaller c.as_slice-tree-items.result.now c.loop-tree.tree-index c.tree-item.result (omega arith) c.tree-item.is in
    let e = ap items_size c.as_slice-tree-items.ensures in
    (omega (arith, s, e, c.decreases), tt)

pub put_members-put_member-requires : goal.put_members-put_member-requires
put_members-put_member-requires t c =
    let s = member_smaller c.as_slice-member-items.result.now c.loop-member.member-index c.member-item.result (omega arith) c.member-item.is in
    let e = ap members_size c.as_slice-member-items.ensures in
    (omega (arith, s, e, c.decreases), tt)
