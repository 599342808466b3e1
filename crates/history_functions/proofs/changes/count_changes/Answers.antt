use Rattle.std.proofs.Common.{cond, ap, ◌∙◌, arith}
use Rattle.history_functions.proofs.Looking.{changes_more, changes_end}
use Rattle.history_functions.proofs.changes.count_changes.Goals as goal

pub loop-place-preserved : goal.loop-place-preserved
loop-place-preserved c =
    let few = c.loop-place.invariant.0 in
    let one = c.one_if-count.ensures.most in (
      omega (arith, few, one),
      changes_more c.args.counted c.args.window.now c.loop-place.place c.stored_at-earlier.result.now c.stored_at-later.result.now c.loop-place.count c.one_if-count.result _
          c.stored_at-earlier.ensures c.stored_at-later.ensures (c.one_if-count.ensures.is ∙ ap (λ b. cond b 1 0) c.counts.ensures) c.loop-place.invariant.1,
    )

pub returns : goal.returns
returns c = changes_end c.args.counted c.args.window.now c.loop-place.place c.loop-place.count _ (omega arith) c.loop-place.invariant.1
