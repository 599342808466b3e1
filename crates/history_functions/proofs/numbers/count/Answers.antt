use Rattle.std.proofs.Common.{cond, ap, ◌∙◌, arith}
use Rattle.history_functions.proofs.Looking.{count_more}
use Rattle.history_functions.proofs.numbers.count.Goals as goal

pub loop-place-preserved : goal.loop-place-preserved
loop-place-preserved c =
    let few = c.loop-place.invariant.0 in
    let one = c.one_if-count.ensures.most in (
      omega (arith, few, one),
      count_more c.args.window.now c.loop-place.place c.number_at.result c.loop-place.count c.one_if-count.result _ (omega arith) c.number_at.ensures
          (c.one_if-count.ensures.is ∙ ap (λ b. cond b 1 0) c.is_some.ensures) c.loop-place.invariant.1,
    )
