use Rattle.std.proofs.Common.{◌≡◌}
use Rattle.std.specs.Vec.Iter.{into_iter_items}
use Rattle.json_text.specs.Json.{no_members}
use Rattle.json_text.specs.Naming.{Finds, put_all}
use Rattle.json_text.specs.Trees.{members_of}
use Rattle.json_text.proofs.naming.merged.Given as goal

abbrev pub invariant-loop-pair : goal.invariant-loop-pair
invariant-loop-pair l = record {
  all : put_all (members_of l.members.items) (into_iter_items l.pair-iterator) ≡ put_all no_members l.fn.pairs.items;
  finds : Finds l.places l.members.items;
}
