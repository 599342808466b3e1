use Rattle.zbx_types.proofs.WrittenLemmas.{without_last_zeros-step, without_last_zeros-stop}
use Rattle.std.proofs.Common.{◌∙◌, sym}
use Rattle.zbx_types.proofs.writing.+without_last_zeros.Goals as goal

pub returns-then-last-eq48 : goal.returns-then-last-eq48
returns-then-last-eq48 t c =
    let parts = c.in-Some.ensures in
    c.without_last_zeros.ensures ∙ sym (without_last_zeros-step _ _ _ parts.cases.0 c.if-last-eq48.true)

pub returns-else-last-eq48 : goal.returns-else-last-eq48
returns-else-last-eq48 t c =
    let parts = c.in-Some.ensures in
    sym (without_last_zeros-stop _ _ _ parts.cases.0 c.if-last-eq48.false)
