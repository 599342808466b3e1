use Rattle.std.proofs.Common.{◌≡◌, ◌++◌, sym, ap, ◌∙◌, Some, None, rules, append_assoc}
use Rattle.event_text.specs.Forms.{macro_at, pattern_of, patterns_of}
use Rattle.event_text.proofs.FormLemmas.{macro_shorter}
use Rattle.event_text.proofs.TitleLemmas.{patterns_macro, patterns_brace}
use Rattle.event_text.proofs.titles.put_pattern.Goals as goal

pub returns-in_default-clause-value : goal.returns-in_default-clause-value
returns-in_default-clause-value c =
    let e : macro_at c.args.behind.now ≡ None = search rules in
    ap (λ t. c.args.made.now ++ t) (sym (patterns_brace c.args.behind.now e))

pub returns-clause-value : goal.returns-clause-value
returns-clause-value c =
    let e : macro_at c.args.behind.now ≡ Some (c.in-Some.found, c.in-Some.rest.now) = search rules in
    ap (λ t. t ++ patterns_of c.in-Some.rest.now) c.in_ok-put_found.ensures
    ∙ append_assoc c.args.made.now (pattern_of c.in-Some.found) (patterns_of c.in-Some.rest.now)
    ∙ ap (λ t. c.args.made.now ++ t) (sym (patterns_macro c.args.behind.now c.in-Some.rest.now c.in-Some.found e))

pub returns-clause-shorter : goal.returns-clause-shorter
returns-clause-shorter c =
    let e : macro_at c.args.behind.now ≡ Some (c.in-Some.found, c.in-Some.rest.now) = search rules in
    macro_shorter c.args.behind.now c.in-Some.rest.now c.in-Some.found e
