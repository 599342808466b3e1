use Rattle.std.proofs.Common.{◌≡◌, ◌++◌, ◌∷◌, [], Some, None, append_assoc, arith, ap, ◌∙◌}
use Rattle.std.proofs.lemmas.Str.Pattern.{strip_suffix_char}
use Rattle.event_text.proofs.QuoteLemmas.{closed_part, escaped_part}
use Rattle.event_text.proofs.quotes.put_part.Goals as goal

pub returns-in_ok-push_str-in-Some-2 : goal.returns-in_ok-push_str-in-Some-2
returns-in_ok-push_str-in-Some-2 c = λ rest.
    let whole : c.args.part.now ≡ c.in-Some.kept.now ++ 92 ∷ [] = strip_suffix_char 92 c.args.part.now (Some c.in-Some.kept) c.in-Some.ensures.cases (omega arith) in
    let joined = append_assoc c.args.made.now c.in-Some.kept.now (34 ∷ []) in
    escaped_part c.args.part.now c.in-Some.kept.now c.args.made.now c.push_str-in-Some.new.self rest c.requires whole
    (c.in_ok-push_str-in-Some-2.ensures.ok ∙ ap (λ t. t ++ 34 ∷ []) c.in_ok-push_str-in-Some.ensures.ok ∙ joined)

pub returns-in_ok-push_str-in-None : goal.returns-in_ok-push_str-in-None
returns-in_ok-push_str-in-None c = λ rest.
    closed_part c.args.part.now c.args.made.now c.push_str-in-None.new.self rest c.requires
    (strip_suffix_char 92 c.args.part.now None c.in-None.ensures.cases (omega arith)) c.in_ok-push_str-in-None.ensures.ok
