use Rattle.std.proofs.Common.{◌≡◌, ◌+◌, ℕ, Bool, List, length, filter, take, ◌∙◌, sym, subst, arith}
use Rattle.std.proofs.lemmas.List.{take_all}
use Rattle.entry_step.specs.Kept.{still_to_come, SeesFor}
use Rattle.entry_step.specs.Records.{evaluated}
use Rattle.entry_step.specs.Changes.{is_asked, Runs}
use Rattle.entry_step.proofs.Turns.{asked_more, count_more, count_within, each_asked}
use Rattle.entry_step.proofs.stepping.evaluate_all.Goals as goal

pub loop-id-preserved : goal.loop-id-preserved
loop-id-preserved g c =
    let ids : List ℕ = c.args.ids.now in
    let k : ℕ = c.loop-id.id-index in
    let p : ℕ → Bool = is_asked c.args.scene.now.ready.now.conf c.args.scene.now.coming.now in
    let counted : c.evaluate_one.new.steps ≡ c.args.steps.now + length (filter p (take (k + 1) ids)) =
    let a = c.in_ok-evaluate_one.ensures.counted in let b = c.loop-id.invariant.counted in let m = count_more p ids k c.loop-id-test.true in omega arith in
    record {
      same = c.in_ok-evaluate_one.ensures.same ∙ c.loop-id.invariant.same;
      runs = λ items each tidy.
          subst (λ is. Runs c.args.scene.now.ready.now (evaluated c.args.scene.now.ready.now c.args.scene.now.occasion items) c.args.problems.now.items is c.evaluate_one.new.draft.records c.evaluate_one.new.problems.items)
          (sym (asked_more p ids k c.loop-id-test.true))
          (c.in_ok-evaluate_one.ensures.runs items c.args.problems.now.items (filter p (take k ids)) tidy (c.loop-id.invariant.runs items each tidy)
          (λ a. each_asked (SeesFor c.args.scene.now.ready.now.conf c.args.scene.now.items.now (still_to_come c.args.scene.now.coming.now) c.args.scene.now.occasion.now items) p ids k c.loop-id-test.true each a));
      counted = counted;
    }

pub returns-clause-runs : goal.returns-clause-runs
returns-clause-runs g c = λ items each tidy.
    subst (λ ids. Runs c.args.scene.now.ready.now (evaluated c.args.scene.now.ready.now c.args.scene.now.occasion items) c.args.problems.now.items (filter (is_asked c.args.scene.now.ready.now.conf c.args.scene.now.coming.now) ids) c.loop-id.draft.records c.loop-id.problems.items)
    (take_all c.loop-id.id-index c.args.ids.now c.loop-id-test.false) (c.loop-id.invariant.runs items each tidy)

pub returns-in_err-evaluate_one-clause-most : goal.returns-in_err-evaluate_one-clause-most
returns-in_err-evaluate_one-clause-most g c =
    let ids : List ℕ = c.args.ids.now in
    let p : ℕ → Bool = is_asked c.args.scene.now.ready.now.conf c.args.scene.now.coming.now in
    let a = c.evaluate_one.ensures.most in
    let b = c.loop-id.invariant.counted in
    let m = count_within p ids c.loop-id.id-index c.loop-id-test.true in
    omega arith
