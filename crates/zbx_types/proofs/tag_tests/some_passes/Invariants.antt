use Rattle.std.proofs.Common.{◌≡◌, drop}
use Rattle.std.specs.List.{list_any}
use Rattle.zbx_types.specs.Tags.{passes}
use Rattle.zbx_types.proofs.tag_tests.some_passes.Given as goal

abbrev pub invariant-loop-test : goal.invariant-loop-test
invariant-loop-test l = list_any (passes l.tags) (drop l.test-index l.tests) ≡ list_any (passes l.tags) l.tests
