use Rattle.std.proofs.Common.{◌≡◌, ◌-◌, ◌++◌, ◌∙◌, ap, sym, subst, take, Some, arith}
use Rattle.std.specs.Fmt.{char_count, take_chars}
use Rattle.event_text.specs.Cuts.{Keeps}
use Rattle.event_text.specs.declared.fronts.Limit.TheVariants.{Characters}
use Rattle.event_text.proofs.CutLemmas.{characters_fit, characters_cut}
use Rattle.event_text.proofs.fronts.keep_characters.Goals as goal

pub returns-then-count-left : goal.returns-then-count-left
returns-then-count-left c =
    let more = c.args.more.now in
    let e : c.char_count-count.result ≡ char_count more = c.char_count-count.ensures.value ∙ ap char_count c.as_bytes.ensures.value in
    subst (λ n. Keeps (Characters c.args.left) more more (Some (Characters (c.args.left - n)))) (sym e) (characters_fit c.args.left more (omega (arith, e)))

pub returns : goal.returns
returns c = λ limit made rest leaves.
    let more = c.args.more.now in
    let kept = c.end_of_chars.result in
    let all : kept - 0 ≡ kept = omega arith in
    let e : c.char_count-count.result ≡ char_count more = c.char_count-count.ensures.value ∙ ap char_count c.as_bytes.ensures.value in
    let is : take kept more ≡ take_chars c.args.left more = subst (λ t. take kept t ≡ take_chars c.args.left t) c.as_bytes-2.ensures.value c.end_of_chars.ensures.value in
    ap (λ u. made ++ u) c.range.ensures.value ∙ ap (λ n. made ++ take n more) all
    ∙ characters_cut c.args.left kept more (omega (arith, e)) is limit made rest leaves
