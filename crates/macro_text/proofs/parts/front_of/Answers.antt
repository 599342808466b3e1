use Rattle.std.proofs.Common.{◌≡◌, ◌<◌, ◌∙◌, ap, sym, subst, arith}
use Rattle.std.specs.Str.{IsCharBoundary}
use Rattle.macro_text.specs.References.{plain_len, reference_len}
use Rattle.macro_text.proofs.Ends.{plain-boundary, reference-boundary}
use Rattle.macro_text.proofs.Fronts.{plain-front, reference-front}
use Rattle.macro_text.proofs.parts.front_of.Goals as goal

pub split_at-requires : goal.split_at-requires
split_at-requires c =
    let e : c.plain_len.result ≡ plain_len c.args.text.now = c.plain_len.ensures ∙ ap plain_len c.as_bytes-then-length-eq0.ensures.value in
    subst (λ n. IsCharBoundary c.args.text.now n) (sym e) (plain-boundary c.args.text.now c.utf8.text)

pub returns-then-length-eq0-clause-front : goal.returns-then-length-eq0-clause-front
returns-then-length-eq0-clause-front c = λ lookup.
    let none : reference_len c.args.text.now ≡ 0 = cc in
    let front = plain-front lookup c.args.text.now none in
    cc

pub split_at-requires-2 : goal.split_at-requires-2
split_at-requires-2 c =
    let e : c.reference_len-length.result ≡ reference_len c.args.text.now = c.reference_len-length.ensures ∙ ap reference_len c.as_bytes.ensures.value in
    subst (λ n. IsCharBoundary c.args.text.now n) (sym e) (reference-boundary c.args.text.now c.utf8.text)

pub returns-clause-front : goal.returns-clause-front
returns-clause-front c = λ lookup.
    let e : c.reference_len-length.result ≡ reference_len c.args.text.now = cc in
    let some : 0 < reference_len c.args.text.now = omega (arith, e, c.if-length-eq0.false) in
    let front = reference-front lookup c.args.text.now some in
    cc
