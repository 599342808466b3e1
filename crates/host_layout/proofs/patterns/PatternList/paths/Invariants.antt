use Rattle.std.proofs.Common.{◌≡◌, ◌++◌, map}
use Rattle.host_layout.specs.Kept.{kept_pattern}
use Rattle.host_layout.specs.Patterns.{Pattern}
use Rattle.host_layout.proofs.patterns.PatternList.paths.Given as goal

abbrev pub invariant-loop-path : goal.invariant-loop-path
invariant-loop-path l = l.made ++ map (λ (p : Pattern). p.path) (map kept_pattern l.path-iterator) ≡ map (λ (p : Pattern). p.path) l.self
