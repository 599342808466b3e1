use Rattle.std.proofs.Common.{◌≡◌, drop}
use Rattle.zbx_types.specs.Texts.{contains}
use Rattle.zbx_types.specs.Tags.{has_value}
use Rattle.zbx_types.proofs.tag_tests.has_containing.Given as goal

abbrev pub invariant-loop-tag : goal.invariant-loop-tag
invariant-loop-tag l = has_value (λ v. contains v l.part) l.name (drop l.tag-index l.tags) ≡ has_value (λ v. contains v l.part) l.name l.tags
