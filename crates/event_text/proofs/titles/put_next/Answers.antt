use Rattle.std.proofs.Common.{◌≡◌, ◌++◌, ◌∷◌, [], sym, ap, subst, ◌∙◌, All, Contains, rules, arith}
use Rattle.event_text.specs.Cuts.{IsOnTheWay}
use Rattle.event_text.specs.Forms.{patterns_of}
use Rattle.event_text.specs.Titles.{expanded}
use Rattle.event_text.proofs.TitleLemmas.{expanded_plain, patterns_plain, patterns_none, goes_ok}
use Rattle.event_text.proofs.titles.put_next.Goals as goal

pub put_brace-requires : goal.put_brace-requires
put_brace-requires c =
    let whole : c.args.text.now ≡ c.split_brace.result.0.now ++ 123 ∷ c.in-Some.behind.now = search rules in
    subst (λ ps. All (λ p. Contains c.args.patterns.now p) ps)
    (ap patterns_of whole ∙ patterns_plain c.split_brace.result.0.now (123 ∷ c.in-Some.behind.now) c.split_brace.ensures.plain) c.requires

pub returns-in-Some-clause-way : goal.returns-in-Some-clause-way
returns-in-Some-clause-way c =
    let whole : c.args.text.now ≡ c.split_brace.result.0.now ++ 123 ∷ c.in-Some.behind.now = search rules in
    let more = expanded c.args.host.now c.args.values.now in
    let split : more c.args.text.now ≡ c.split_brace.result.0.now ++ more (123 ∷ c.in-Some.behind.now) =
    ap more whole ∙ expanded_plain c.args.host.now c.args.values.now c.split_brace.result.0.now (123 ∷ c.in-Some.behind.now) c.split_brace.ensures.plain in
    goes_ok c.put_brace.result c.args.front.now c.add.new.self c.put_brace.new.front c.split_brace.result.0.now (more (123 ∷ c.in-Some.behind.now)) (more c.args.text.now)
    (λ rest. more rest.now) split c.in_ok-add.ensures c.put_brace.ensures.way

pub returns-in-None-clause-way : goal.returns-in-None-clause-way
returns-in-None-clause-way c = λ limit whole arrives.
    let is : c.args.text.now ≡ c.split_brace.result.0.now ++ [] = search rules in
    let more = expanded c.args.host.now c.args.values.now in
    let split : more c.args.text.now ≡ c.split_brace.result.0.now ++ more [] =
    ap more is ∙ expanded_plain c.args.host.now c.args.values.now c.split_brace.result.0.now [] c.split_brace.ensures.plain in
    c.in_ok-add.ensures limit (more []) whole (subst (λ t. IsOnTheWay limit c.args.front.now t whole) split arrives)

pub returns-in-None-clause-patterns : goal.returns-in-None-clause-patterns
returns-in-None-clause-patterns c = subst (λ ps. All (λ p. Contains c.args.patterns.now p) ps) (sym patterns_none) (λ k d below. absurd (omega arith))
