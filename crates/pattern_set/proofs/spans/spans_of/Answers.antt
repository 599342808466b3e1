use Rattle.std.proofs.Common.{◌∙◌, sym, ap₂, arith, ◌++◌, ◌∷◌, []}
use Rattle.std.proofs.lemmas.List.FromFn.{map-range_with_len_more}
use Rattle.regex.specs.Strings.{captures_span}
use Rattle.pattern_set.specs.Spans.{span_of}
use Rattle.pattern_set.proofs.spans.spans_of.Goals as goal

pub loop-group-preserved : goal.loop-group-preserved
loop-group-preserved c =
    c.in_ok-push.ensures.ok
    ∙ ap₂ (λ made span. made ++ span ∷ []) c.loop-group.invariant c.span_of.ensures
    ∙ sym (map-range_with_len_more (λ group. span_of (captures_span c.args.groups.now group)) 0 c.loop-group.group c.loop-group.group (omega arith))
