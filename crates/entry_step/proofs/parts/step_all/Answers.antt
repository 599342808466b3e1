use Rattle.std.proofs.Common.{◌≤◌, ◌∙◌, List, length, refl, sym, subst, arith}
use Rattle.zbx_types.specs.declared.entries.Rec.{Rec}
use Rattle.entry_step.specs.Stepping.{AreSteppedTo}
use Rattle.entry_step.proofs.Stepped.{AllHalfway, none_yet, more_halfway, more_taken, some_taken, all_made, all_counted}
use Rattle.entry_step.proofs.parts.step_all.Goals as goal

pub loop-entry-init : goal.loop-entry-init
loop-entry-init g c = record {
  halfway = subst (λ (made : List (List Rec)). AllHalfway c.args.ready.now c.args.cells.now c.args.entries.now 0 c.args.cells.now made c.args.steps.now c.args.steps.now) (sym c.new-made.ensures)
      (none_yet c.args.ready.now c.args.cells.now c.args.entries.now c.args.steps.now);
  cache = refl;
}

pub returns-in_err-step-clause-some : goal.returns-in_err-step-clause-some
returns-in_err-step-clause-some g c =
    subst (AreSteppedTo c.args.ready.now c.args.cells.now c.args.entries.now) (sym c.in_err-step.ensures.err)
    (some_taken c.args.ready.now c.args.cells.now c.args.entries.now c.loop-entry.entry-index c.loop-entry.cells c.loop-entry.made c.args.steps.now c.loop-entry.steps c.loop-entry.invariant.halfway)

pub returns-in_err-step-clause-cache : goal.returns-in_err-step-clause-cache
returns-in_err-step-clause-cache g c = c.step.ensures.cache ∙ c.loop-entry.invariant.cache

pub returns-in_err-push-clause-some : goal.returns-in_err-push-clause-some
returns-in_err-push-clause-some g c =
    more_taken c.args.ready.now c.args.cells.now c.args.entries.now c.loop-entry.entry-index c.loop-entry.cells c.step.new.cells c.loop-entry.made c.args.steps.now c.loop-entry.steps c.entry-item.result c.in_ok-step.field-0
    c.loop-entry-test.true c.entry-item.is c.in_ok-step.ensures.made c.loop-entry.invariant.halfway

pub returns-in_err-push-clause-cache : goal.returns-in_err-push-clause-cache
returns-in_err-push-clause-cache g c = c.step.ensures.cache ∙ c.loop-entry.invariant.cache

pub loop-entry-preserved : goal.loop-entry-preserved
loop-entry-preserved g c = record {
  halfway = more_halfway c.args.ready.now c.args.cells.now c.args.entries.now c.loop-entry.entry-index c.loop-entry.cells c.step.new.cells c.loop-entry.made c.args.steps.now c.loop-entry.steps c.entry-item.result c.in_ok-step.field-0
      c.loop-entry-test.true c.entry-item.is c.in_ok-step.ensures.made c.loop-entry.invariant.halfway c.push.new.self c.step.new.steps c.in_ok-push.ensures.ok c.in_ok-step.ensures.counted;
  cache = c.step.ensures.cache ∙ c.loop-entry.invariant.cache;
}

pub returns-clause-made : goal.returns-clause-made
returns-clause-made g c =
    let past : length c.args.entries.now ≤ c.loop-entry.entry-index = omega (arith, c.loop-entry-test.false) in
    all_made c.args.ready.now c.args.cells.now c.args.entries.now c.loop-entry.entry-index c.loop-entry.cells c.loop-entry.made c.args.steps.now c.loop-entry.steps c.loop-entry.invariant.halfway past

pub returns-clause-counted : goal.returns-clause-counted
returns-clause-counted g c =
    let past : length c.args.entries.now ≤ c.loop-entry.entry-index = omega (arith, c.loop-entry-test.false) in
    all_counted c.args.ready.now c.args.cells.now c.args.entries.now c.loop-entry.entry-index c.loop-entry.cells c.loop-entry.made c.args.steps.now c.loop-entry.steps c.loop-entry.invariant.halfway past

pub returns-clause-some : goal.returns-clause-some
returns-clause-some g c = some_taken c.args.ready.now c.args.cells.now c.args.entries.now c.loop-entry.entry-index c.loop-entry.cells c.loop-entry.made c.args.steps.now c.loop-entry.steps c.loop-entry.invariant.halfway

pub returns-clause-cache : goal.returns-clause-cache
returns-clause-cache g c = c.loop-entry.invariant.cache
