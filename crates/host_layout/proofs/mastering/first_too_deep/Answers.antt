use Rattle.std.proofs.Common.{◌≡◌, ◌+◌, ◌∙◌, Some, true, false, sym, ap, arith}
use Rattle.host_layout.specs.Masters.{is_too_deep}
use Rattle.host_layout.proofs.Finding.{here, behind}
use Rattle.host_layout.proofs.mastering.first_too_deep.Goals as goal

pub returns-then-is_too_deep : goal.returns-then-is_too_deep
returns-then-is_too_deep c =
    let items = c.args.items.now in
    let t : is_too_deep items (c.loop-place.place + 1) ≡ true = ap (is_too_deep items) (sym c.in_ok-id.ensures) ∙ sym c.is_too_deep.ensures ∙ c.if-is_too_deep.true in
    ap (λ n. Some n) c.in_ok-id.ensures ∙ sym (here (is_too_deep items) items c.loop-place.place (omega arith) t) ∙ c.loop-place.invariant

pub loop-place-preserved : goal.loop-place-preserved
loop-place-preserved c =
    let items = c.args.items.now in
    let t : is_too_deep items (c.loop-place.place + 1) ≡ false = ap (is_too_deep items) (sym c.in_ok-id.ensures) ∙ sym c.is_too_deep.ensures ∙ c.if-is_too_deep.false in
    behind (is_too_deep items) items c.loop-place.place (omega arith) t ∙ c.loop-place.invariant
