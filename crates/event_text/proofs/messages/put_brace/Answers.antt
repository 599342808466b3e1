use Rattle.std.proofs.Common.{◌≡◌, ◌++◌, ◌∷◌, [], sym, ap, ◌∙◌, Some, None, rules, append_assoc}
use Rattle.event_text.specs.Words.{told_at}
use Rattle.event_text.specs.Messages.{word_text, resolved}
use Rattle.event_text.proofs.MessageLemmas.{resolved_word, resolved_brace, word_shorter}
use Rattle.event_text.proofs.messages.put_brace.Goals as goal

pub returns-in_ok-put_word-in-Some-clause-value : goal.returns-in_ok-put_word-in-Some-clause-value
returns-in_ok-put_word-in-Some-clause-value c =
    let a = c.args in
    let rest = c.in-Some.rest.now in
    let e : told_at a.recovered.now a.behind.now ≡ Some (c.in-Some.word, rest) = search rules in
    let shown = word_text a.conf.now a.problem.now a.recovered.now c.in-Some.word in
    ap (λ t. t ++ resolved a.conf.now a.problem.now a.recovered.now rest) c.in_ok-put_word-in-Some.ensures
    ∙ append_assoc a.made.now shown (resolved a.conf.now a.problem.now a.recovered.now rest)
    ∙ ap (λ t. a.made.now ++ t) (sym (resolved_word a.conf.now a.problem.now a.recovered.now a.behind.now rest c.in-Some.word e))

pub returns-in_ok-put_word-in-Some-clause-shorter : goal.returns-in_ok-put_word-in-Some-clause-shorter
returns-in_ok-put_word-in-Some-clause-shorter c =
    let e : told_at c.args.recovered.now c.args.behind.now ≡ Some (c.in-Some.word, c.in-Some.rest.now) = search rules in
    word_shorter c.args.recovered.now c.args.behind.now c.in-Some.rest.now c.in-Some.word e

pub returns-in_ok-push_str-in-None-clause-value : goal.returns-in_ok-push_str-in-None-clause-value
returns-in_ok-push_str-in-None-clause-value c =
    let a = c.args in
    let e : told_at a.recovered.now a.behind.now ≡ None = search rules in
    ap (λ t. t ++ resolved a.conf.now a.problem.now a.recovered.now a.behind.now) c.in_ok-push_str-in-None.ensures.ok
    ∙ append_assoc a.made.now (123 ∷ []) (resolved a.conf.now a.problem.now a.recovered.now a.behind.now)
    ∙ ap (λ t. a.made.now ++ t) (sym (resolved_brace a.conf.now a.problem.now a.recovered.now a.behind.now e))
