use Rattle.std.proofs.Common.{◌∙◌, ◌∷◌, ◌++◌, ◌==◌, [], ℕ, cond, ap, List}
use Rattle.trigger_state.specs.Cells.{row_at}
use Rattle.trigger_state.specs.Problems.{opened}
use Rattle.trigger_state.specs.declared.problems.Open.{Open}
use Rattle.trigger_state.proofs.Rows.{row_becomes, row_over, opened_is}
use Rattle.trigger_state.proofs.absorbing.add.Goals as goal

pub returns-clause-ok : goal.returns-clause-ok
returns-clause-ok c = λ id.
    row_over c.reach.new.rows.items c.args.rows.now.items c.home-home.result _ (λ (os : List Open). os ++ opened c.args.stage.now c.args.problem.now [] ∷ []) c.in_ok-reach.ensures.same
    (row_becomes c.reach.new.rows.items c.home-home.result c.index_mut.result.now c.push.new.self (λ (os : List Open). os ++ opened c.args.stage.now c.args.problem.now [] ∷ [])
    c.in_ok-reach.ensures.within c.index_mut.ensures.value
    (c.in_ok-push.ensures.ok ∙ opened_is c.args.stage.now c.args.event c.args.problem.now c.in_ok-copy.field-0 c.new.result c.rank.result c.index_mut.result.now c.requires c.in_ok-copy.ensures c.new.ensures c.rank.ensures)) id
    ∙ ap (λ (h : ℕ). cond (h == id) (row_at c.args.rows.now.items id ++ opened c.args.stage.now c.args.problem.now [] ∷ []) (row_at c.args.rows.now.items id)) c.home-home.ensures
