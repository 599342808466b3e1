use Rattle.std.proofs.Common.{◌≡◌, ◌++◌, take}
use Rattle.std.specs.List.{flat_map}
use Rattle.event_text.specs.Lines.{barred, tag_fields}
use Rattle.event_text.proofs.records.add_tags.Given as goal

abbrev pub invariant-loop-tag : goal.invariant-loop-tag
invariant-loop-tag l = record {
  so_far : l.out.back ≡ l.fn.out.back ++ flat_map barred (flat_map tag_fields (take l.tag-index l.tags));
  front : l.out.front ≡ l.fn.out.front;
}
