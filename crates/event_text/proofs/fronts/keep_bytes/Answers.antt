use Rattle.std.proofs.Common.{◌≡◌, ◌-◌, ◌++◌, ◌∙◌, ap, take, arith}
use Rattle.event_text.proofs.CutLemmas.{bytes_cut}
use Rattle.event_text.proofs.fronts.keep_bytes.Goals as goal

pub returns : goal.returns
returns c = λ limit made rest leaves.
    let kept = c.floor_char_boundary.result in
    let all : kept - 0 ≡ kept = omega arith in
    ap (λ u. made ++ u) c.range.ensures.value ∙ ap (λ n. made ++ take n c.args.more.now) all
    ∙ bytes_cut c.args.left kept c.args.more.now (omega arith)
    (c.floor_char_boundary.ensures.bound, c.floor_char_boundary.ensures.boundary, c.floor_char_boundary.ensures.nearest) limit made rest leaves
