use Rattle.std.proofs.Common.{arith, ap}
use Rattle.json_text.specs.Json.{items_size, members_size}
use Rattle.json_path.proofs.SelectionLemmas.{item_smaller, member_smaller}
use Rattle.json_path.proofs.contents.+within.Goals as goal

pub add_within_items-add_within-requires : goal.add_within_items-add_within-requires
add_within_items-add_within-requires t c =
    let s = item_smaller c.as_slice-item-items.result.now c.loop-item.item-index c.item-item.result (omega arith) c.item-item.is in
    let e = ap items_size c.as_slice-item-items.ensures in
    (omega (arith, s, e, c.decreases), tt)

pub add_within_members-add_within-requires : goal.add_within_members-add_within-requires
add_within_members-add_within-requires t c =
    let s = member_smaller c.as_slice-member-items.result.now c.loop-member.member-index c.member-item.result (omega arith) c.member-item.is in
    let e = ap members_size c.as_slice-member-items.ensures in
    (omega (arith, s, e, c.decreases), tt)
