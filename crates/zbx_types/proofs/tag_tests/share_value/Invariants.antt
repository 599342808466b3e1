use Rattle.std.proofs.Common.{◌≡◌, drop}
use Rattle.zbx_types.specs.Tags.{share_value}
use Rattle.zbx_types.proofs.tag_tests.share_value.Given as goal

abbrev pub invariant-loop-tag : goal.invariant-loop-tag
invariant-loop-tag l = share_value (drop l.tag-index l.one) l.one_tag l.other l.other_tag ≡ share_value l.one l.one_tag l.other l.other_tag
