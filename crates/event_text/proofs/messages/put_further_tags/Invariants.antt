use Rattle.std.proofs.Common.{◌≡◌, ◌++◌, take}
use Rattle.std.specs.List.{flat_map}
use Rattle.event_text.specs.Messages.{further_tag}
use Rattle.event_text.proofs.messages.put_further_tags.Given as goal

abbrev pub invariant-loop-tag : goal.invariant-loop-tag
invariant-loop-tag l = l.made ≡ l.fn.made ++ flat_map further_tag (take l.tag-index l.tags)
