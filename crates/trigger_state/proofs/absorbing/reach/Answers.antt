use Rattle.std.proofs.Common.{◌∙◌, ◌++◌, ◌∷◌, [], ap, arith}
use Rattle.trigger_state.specs.Cells.{row_at}
use Rattle.trigger_state.proofs.Rows.{row_more}
use Rattle.trigger_state.proofs.absorbing.reach.Goals as goal

pub loop-row-preserved : goal.loop-row-preserved
loop-row-preserved c = record {
  grows = omega (arith, c.in_ok-push.ensures.len);
  same = λ place. ap (λ xs. row_at xs place) (c.in_ok-push.ensures.items ∙ ap (λ x. c.loop-row.rows.items ++ x ∷ []) c.new.ensures) ∙ row_more c.loop-row.rows.items place ∙ c.loop-row.invariant.same place;
}
