use Rattle.std.proofs.Common.{◌∙◌, sym, ap, map, Some}
use Rattle.std.specs.List.{range_with_len}
use Rattle.regex.specs.Patterns.{Re, find_str}
use Rattle.pattern_set.specs.Spans.{span_of, spans_in}
use Rattle.pattern_set.proofs.Carried.{carried, carried-nothing}
use Rattle.pattern_set.proofs.built.Built.spans.Goals as goal

pub returns-in-Some : goal.returns-in-Some
returns-in-Some c =
    let hay = c.args.text.now in
    let m = c.in-Some.ensures.found in
    let here = ap (λ (re : Re). find_str re hay 0) (sym c.in_ok-matcher.ensures.pattern) ∙ m.1 in
    ap Some c.in_ok-spans_of-in-Some.ensures
    ∙ carried c.self.inside.regex c.args.self.now c.self.view_is c.self.invariant.1 c.self.invariant.0 hay (λ k. (c.type_inv.text k).fits)
    (λ groups. map (λ group. span_of (groups group)) (range_with_len 0 10)) c.in-Some.groups m.0 here m.2

pub returns : goal.returns
returns c =
    let hay = c.args.text.now in
    let none = ap (λ (re : Re). find_str re hay 0) (sym c.in_ok-matcher.ensures.pattern) ∙ c.in-None.ensures.found in
    carried-nothing c.self.inside.regex c.args.self.now c.self.view_is c.self.invariant.1 c.self.invariant.0 hay (λ k. (c.type_inv.text k).fits) spans_in none
