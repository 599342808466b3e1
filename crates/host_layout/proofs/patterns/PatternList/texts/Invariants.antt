use Rattle.std.proofs.Common.{◌≡◌, ◌++◌, map}
use Rattle.host_layout.specs.Kept.{kept_pattern}
use Rattle.host_layout.specs.Patterns.{Pattern}
use Rattle.host_layout.proofs.patterns.PatternList.texts.Given as goal

abbrev pub invariant-loop-text : goal.invariant-loop-text
invariant-loop-text l = l.made ++ map (λ (p : Pattern). p.text) (map kept_pattern l.text-iterator) ≡ map (λ (p : Pattern). p.text) l.self
