use Rattle.std.proofs.Common.{◌≡◌, All, take}
use Rattle.pattern_set.specs.Patterns.{IsPattern}
use Rattle.pattern_set.proofs.patterns.Patterns.build.Given as goal

abbrev pub invariant-loop-index : goal.invariant-loop-index
invariant-loop-index l = (l.built.items ≡ take l.index l.texts) × All IsPattern (take l.index l.texts)
