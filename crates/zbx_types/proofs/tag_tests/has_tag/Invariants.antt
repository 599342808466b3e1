use Rattle.std.proofs.Common.{◌≡◌, drop}
use Rattle.zbx_types.specs.Tags.{has_tag}
use Rattle.zbx_types.proofs.tag_tests.has_tag.Given as goal

abbrev pub invariant-loop-tag : goal.invariant-loop-tag
invariant-loop-tag l = has_tag (drop l.tag-index l.tags) l.name ≡ has_tag l.tags l.name
