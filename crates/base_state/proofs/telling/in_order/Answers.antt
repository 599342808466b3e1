use Rattle.std.proofs.Common.{rules, ℕ}
use Rattle.std.proofs.lemmas.List.Sorted.{answers_always}
use Rattle.std.proofs.lemmas.Fn.{always_returns_same}
use Rattle.zbx_types.specs.Records.{event_of}
use Rattle.zbx_types.specs.declared.base.BaseProblem.{BaseProblem}
use Rattle.trigger_state.specs.Stages.{rank_of}
use Rattle.entry_step.proofs.Sorting.{sort_is, by_event_is}
use Rattle.base_state.proofs.telling.in_order.Goals as goal

pub returns : goal.returns
returns c =
    let trigger : BaseProblem → ℕ = λ one. (event_of one.problem).trigger in
    let rank : BaseProblem → ℕ = λ one. rank_of c.args.stage.now (event_of one.problem) in
    let number : BaseProblem → ℕ = λ one. (event_of one.problem).number in
    let first = c.sort_by_key.new.self.items in
    let second = c.sort_by_key-2.new.self.items in
    let third = c.sort_by_key-3.new.self.items in
    by_event_is c.args.stage.now (λ (one : BaseProblem). event_of one.problem) c.args.problems.items first second third
    (sort_is trigger c.args.problems.items first (c.in_ok-sort_by_key.ensures.sorted trigger (answers_always _ _ _ (λ f a r f' k. search rules)))
    (c.in_ok-sort_by_key.ensures.stable trigger (answers_always _ _ _ (λ f a r f' k. search rules))))
    (sort_is rank first second (c.in_ok-sort_by_key-2.ensures.sorted rank (always_returns_same _ _ _ (λ a r f' k. (search rules, search rules))))
    (c.in_ok-sort_by_key-2.ensures.stable rank (always_returns_same _ _ _ (λ a r f' k. (search rules, search rules)))))
    (sort_is number second third (c.in_ok-sort_by_key-3.ensures.sorted number (answers_always _ _ _ (λ f a r f' k. search rules)))
    (c.in_ok-sort_by_key-3.ensures.stable number (answers_always _ _ _ (λ f a r f' k. search rules))))
