use Rattle.std.proofs.Common.{◌≡◌, ◌∷◌, subst, rules, Some, None, All, Contains}
use Rattle.event_text.specs.Cuts.{IsOnTheWay}
use Rattle.event_text.specs.Forms.{macro_at, pattern_of, patterns_of}
use Rattle.event_text.specs.Titles.{expanded}
use Rattle.event_text.proofs.FormLemmas.{macro_shorter}
use Rattle.event_text.proofs.TitleLemmas.{expanded_macro, expanded_brace, patterns_macro, patterns_brace, among_left, among_right}
use Rattle.event_text.proofs.titles.put_brace.Goals as goal

pub put_macro-requires : goal.put_macro-requires
put_macro-requires c =
    let e : macro_at c.args.behind.now ≡ Some (c.in-Some.found, c.in-Some.rest.now) = search rules in
    among_left c.args.patterns.now (pattern_of c.in-Some.found) (patterns_of c.in-Some.rest.now) (patterns_of (123 ∷ c.args.behind.now))
    (patterns_macro c.args.behind.now c.in-Some.rest.now c.in-Some.found e) c.requires

pub returns-in_ok-put_macro-in-Some-clause-way : goal.returns-in_ok-put_macro-in-Some-clause-way
returns-in_ok-put_macro-in-Some-clause-way c = λ limit whole arrives.
    let e : macro_at c.args.behind.now ≡ Some (c.in-Some.found, c.in-Some.rest.now) = search rules in
    c.in_ok-put_macro-in-Some.ensures limit (expanded c.args.host.now c.args.values.now c.in-Some.rest.now) whole
    (subst (λ t. IsOnTheWay limit c.args.front.now t whole) (expanded_macro c.args.host.now c.args.values.now c.args.behind.now c.in-Some.rest.now c.in-Some.found e) arrives)

pub returns-in_ok-put_macro-in-Some-clause-patterns : goal.returns-in_ok-put_macro-in-Some-clause-patterns
returns-in_ok-put_macro-in-Some-clause-patterns c =
    let e : macro_at c.args.behind.now ≡ Some (c.in-Some.found, c.in-Some.rest.now) = search rules in
    among_right c.args.patterns.now (pattern_of c.in-Some.found) (patterns_of c.in-Some.rest.now) (patterns_of (123 ∷ c.args.behind.now))
    (patterns_macro c.args.behind.now c.in-Some.rest.now c.in-Some.found e) c.requires

pub returns-in_ok-put_macro-in-Some-clause-shorter : goal.returns-in_ok-put_macro-in-Some-clause-shorter
returns-in_ok-put_macro-in-Some-clause-shorter c =
    let e : macro_at c.args.behind.now ≡ Some (c.in-Some.found, c.in-Some.rest.now) = search rules in
    macro_shorter c.args.behind.now c.in-Some.rest.now c.in-Some.found e

pub returns-in_ok-add-in-None-clause-way : goal.returns-in_ok-add-in-None-clause-way
returns-in_ok-add-in-None-clause-way c = λ limit whole arrives.
    let e : macro_at c.args.behind.now ≡ None = search rules in
    c.in_ok-add-in-None.ensures limit (expanded c.args.host.now c.args.values.now c.args.behind.now) whole
    (subst (λ t. IsOnTheWay limit c.args.front.now t whole) (expanded_brace c.args.host.now c.args.values.now c.args.behind.now e) arrives)

pub returns-in_ok-add-in-None-clause-patterns : goal.returns-in_ok-add-in-None-clause-patterns
returns-in_ok-add-in-None-clause-patterns c =
    let e : macro_at c.args.behind.now ≡ None = search rules in
    subst (λ ps. All (λ p. Contains c.args.patterns.now p) ps) (patterns_brace c.args.behind.now e) c.requires
