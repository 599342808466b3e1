use Rattle.std.proofs.Common.{◌∙◌, ap, map, List, arith}
use Rattle.trigger_state.specs.Problems.{stepped}
use Rattle.trigger_state.specs.declared.problems.Open.{Open}
use Rattle.trigger_state.proofs.Rows.{row_back, row_same}
use Rattle.trigger_state.proofs.absorbing.run.Goals as goal

pub returns-in-Ok-clause-ok : goal.returns-in-Ok-clause-ok
returns-in-Ok-clause-ok c =
    row_back c.args.rows.now.items c.args.home c.replace.new.dest c.index_mut.result.now c.from_vec.result (λ (os : List Open). map (stepped c.args.step.now) os)
    (omega (arith, c.args.rows.now.ok.0)) c.index_mut.ensures.value
    (c.from_vec.ensures ∙ c.in-Ok.ensures.ok ∙ ap (λ (os : List Open). map (stepped c.args.step.now) os) (c.into_vec-row.ensures ∙ c.replace.ensures.value))

pub returns-in-Err-clause-err : goal.returns-in-Err-clause-err
returns-in-Err-clause-err c =
    row_same c.args.rows.now.items c.args.home c.replace.new.dest c.index_mut.result.now c.from_vec-in-Err.result
    (omega (arith, c.args.rows.now.ok.0)) c.index_mut.ensures.value
    (c.from_vec-in-Err.ensures ∙ c.in-Err.ensures.err ∙ c.into_vec-row.ensures ∙ c.replace.ensures.value)
