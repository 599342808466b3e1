use Rattle.std.proofs.Common.{◌≡◌, ℕ, ◌+◌, ◌*◌, ◌≤◌, length}
use Rattle.json.specs.Json.{items, members, value, parse_map}
use Rattle.serde_json.specs.Data.{Items, Members}
use Rattle.serde_json.specs.Read.{of_items, of_members, converted}
use Rattle.sender_json.specs.Tokens.{items_first, members_first}
use Rattle.sender_json.proofs.passing.+pass.Given as goal

abbrev pub decreases-pass : goal.decreases-pass
decreases-pass l = 4 * l.depth + 1

abbrev pub decreases-pass_rest : goal.decreases-pass_rest
decreases-pass_rest l = 4 * l.depth

abbrev pub decreases-pass_items : goal.decreases-pass_items
decreases-pass_items l = 4 * l.depth + 2

abbrev pub decreases-pass_members : goal.decreases-pass_members
decreases-pass_members l = 4 * l.depth + 2

abbrev pub invariant-pass_items-items : goal.invariant-pass_items-items
invariant-pass_items-items l = record {
  turns : ℕ;
  enough : length l.reader ≤ turns;
  before : Items → Items;
  reads : items_first l.depth l.initial.reader ≡ parse_map before (converted of_items (items (value l.depth) turns l.reader));
  shorter : length l.reader ≤ length l.initial.reader;
}

abbrev pub decreases-pass_items-items : goal.decreases-pass_items-items
decreases-pass_items-items l = length l.reader

abbrev pub invariant-pass_members-members : goal.invariant-pass_members-members
invariant-pass_members-members l = record {
  turns : ℕ;
  enough : length l.reader ≤ turns;
  found : Members;
  reads : members_first l.depth l.initial.reader ≡ converted (λ ms. of_members ms found) (members (value l.depth) turns l.reader);
  shorter : length l.reader ≤ length l.initial.reader;
}

abbrev pub decreases-pass_members-members : goal.decreases-pass_members-members
decreases-pass_members-members l = length l.reader
