use Rattle.std.proofs.Common.{◌≡◌, ◌-◌, ◌++◌, ◌∙◌, ap, subst, length, take, arith}
use Rattle.macro_text.proofs.Wholes.{IsLastBoundary, whole_cut}
use Rattle.macro_text.proofs.limited.whole_characters.Goals as goal

pub returns : goal.returns
returns c = λ made rest most e.
    let kept = c.floor_char_boundary.result in
    let room : c.args.room ≡ most - length made = omega (arith, e) in
    let last : IsLastBoundary c.args.text.now (most - length made) kept =
    subst (λ r. IsLastBoundary c.args.text.now r kept) room (c.floor_char_boundary.ensures.bound, c.floor_char_boundary.ensures.boundary, c.floor_char_boundary.ensures.nearest) in
    let all : kept - 0 ≡ kept = omega arith in
    ap (λ u. made ++ u) c.range.ensures.value ∙ ap (λ n. made ++ take n c.args.text.now) all
    ∙ whole_cut made c.args.text.now rest most kept (omega (arith, e)) (omega (arith, e, c.requires)) last
