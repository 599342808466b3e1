use Rattle.std.proofs.Common.{refl, subst, sym, ◌≡◌, ◌+◌, length, drop, cond, is_some, arith}
use Rattle.history_functions.specs.Values.{numbers}
use Rattle.history_functions.proofs.Looking.{count_more, total_more}
use Rattle.history_functions.proofs.numbers.added_up.Goals as goal

pub loop-place-preserved : goal.loop-place-preserved
loop-place-preserved c = record {
  total = total_more c.args.window.now c.loop-place.place c.number_at.result c.loop-place.summed.total c.in_ok-summed.summed.total _ (omega arith) c.number_at.ensures c.in_ok-summed.ensures.total c.loop-place.invariant.total;
  count = subst (λ n. n + length (numbers (drop (c.loop-place.place + 1) c.args.window.now)) ≡ length (numbers c.args.window.now)) (sym c.in_ok-summed.ensures.count)
      (count_more c.args.window.now c.loop-place.place c.number_at.result c.loop-place.summed.count (cond (is_some c.number_at.result) 1 0) _ (omega arith) c.number_at.ensures refl c.loop-place.invariant.count);
}
