use Rattle.std.proofs.Common.{cond, ap, ◌∙◌, arith}
use Rattle.history_functions.proofs.Looking.{matching_more, matching_end}
use Rattle.history_functions.proofs.matching.count_matching.Goals as goal

pub loop-place-preserved : goal.loop-place-preserved
loop-place-preserved c =
    let few = c.loop-place.invariant.1 in
    let one = c.one_if.ensures.most in (
      c.matches.ensures.same ∙ c.loop-place.invariant.0,
      omega (arith, few, one),
      matching_more c.args.test.now.operator c.args.test.now.arg.now c.args.window.now c.loop-place.place c.stored_at-stored.result.now c.loop-place.count c.one_if.result _
          c.stored_at-stored.ensures (c.one_if.ensures.is ∙ ap (λ b. cond b 1 0) c.in_ok-matches.ensures.matching) c.loop-place.invariant.2,
    )

pub returns : goal.returns
returns c = matching_end c.args.test.now.operator c.args.test.now.arg.now c.args.window.now c.loop-place.place c.loop-place.count _ (omega arith) c.loop-place.invariant.2
