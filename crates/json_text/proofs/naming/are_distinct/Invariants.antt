use Rattle.std.proofs.Common.{◌≡◌, take}
use Rattle.json_text.specs.Json.{no_members}
use Rattle.json_text.specs.Naming.{put_all}
use Rattle.json_text.specs.Trees.{members_of}
use Rattle.json_text.proofs.naming.are_distinct.Given as goal

abbrev pub invariant-loop-pair : goal.invariant-loop-pair
invariant-loop-pair l = record {
  count : l.count ≡ l.pair-index;
  distinct : put_all no_members (take l.pair-index l.pairs) ≡ members_of (take l.pair-index l.pairs);
}
