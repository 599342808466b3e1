use Rattle.std.proofs.Common.{◌≡◌, map}
use Rattle.std.specs.List.{range_with_len}
use Rattle.regex.specs.Strings.{captures_span}
use Rattle.pattern_set.specs.Spans.{span_of}
use Rattle.pattern_set.proofs.spans.spans_of.Given as goal

abbrev pub invariant-loop-group : goal.invariant-loop-group
invariant-loop-group l = l.spans ≡ map (λ group. span_of (captures_span l.groups group)) (range_with_len 0 l.group)
