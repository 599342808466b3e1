use Rattle.std.proofs.Common.{◌∙◌, sym, ap, Some, ℕ, List}
use Rattle.regex.specs.Patterns.{Re, find_str}
use Rattle.regex.specs.Strings.{captures_span}
use Rattle.pattern_set.specs.Filling.{text_of, filled_by, at_most}
use Rattle.pattern_set.specs.Spans.{group_at}
use Rattle.pattern_set.proofs.FillingLemmas.{each_ok}
use Rattle.pattern_set.proofs.Carried.{carried, carried-nothing}
use Rattle.pattern_set.proofs.built.Built.filled_within.Goals as goal

pub returns-in-Some : goal.returns-in-Some
returns-in-Some c =
    let hay = c.args.text.now in
    let m = c.in-Some.ensures.found in
    let here = ap (λ (re : Re). find_str re hay 0) (sym c.in_ok-search.ensures.pattern) ∙ m.1 in
    let at_hay : List ℕ → List ℕ = λ from. filled_by (λ group. text_of from (captures_span c.in-Some.groups group)) c.args.output.now in
    let of_match =
    ap (λ from. Some (at_hay from)) m.2.0
    ∙ carried c.self.inside.regex c.args.self.now c.self.view_is c.self.invariant.1 c.self.invariant.0 hay (λ k. (c.type_inv.text k).fits)
    (λ groups. filled_by (λ group. text_of hay (groups group)) c.args.output.now) c.in-Some.groups m.0 here m.2 in
    each_ok c.filled.result _ _ (λ filled is. is ∙ ap (at_most c.args.limit) of_match) c.filled.ensures

pub returns : goal.returns
returns c =
    let hay = c.args.text.now in
    let none = ap (λ (re : Re). find_str re hay 0) (sym c.in_ok-search.ensures.pattern) ∙ c.in-None.ensures.found in
    ap (at_most c.args.limit)
    (carried-nothing c.self.inside.regex c.args.self.now c.self.view_is c.self.invariant.1 c.self.invariant.0 hay (λ k. (c.type_inv.text k).fits)
    (λ m. filled_by (λ group. text_of hay (group_at m group)) c.args.output.now) none)
