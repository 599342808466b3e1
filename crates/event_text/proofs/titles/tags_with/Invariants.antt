use Rattle.std.proofs.Common.{◌≡◌, map, take}
use Rattle.event_text.specs.Titles.{event_tag}
use Rattle.event_text.proofs.titles.tags_with.Given as goal

abbrev pub invariant-loop-tag : goal.invariant-loop-tag
invariant-loop-tag l = l.made ≡ map (event_tag l.host l.values) (take l.tag-index l.tags)
