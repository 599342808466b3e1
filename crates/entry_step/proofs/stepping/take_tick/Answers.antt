use Rattle.std.proofs.Common.{◌∙◌, ◌+◌, ◌≤◌, ℕ, List, ap, subst, map, length, refl}
use Rattle.std.specs.Arc.{arc_value}
use Rattle.preprocess.specs.Draft.{roomless}
use Rattle.entry_step.proofs.Taking.{takes_tick, asked_all}
use Rattle.entry_step.proofs.stepping.take_tick.Goals as goal

pub returns-in-Ok-clause-ok : goal.returns-in-Ok-clause-ok
returns-in-Ok-clause-ok g c =
    takes_tick c.args.ready.now c.args.occasion.now c.args.cells.now (record { items = map roomless c.cells.inside.items.cells.items; memories = c.cells.inside.items.memories.items; problems = c.run_due.new.problems.items; tick = c.args.occasion.now.tick; cache = arc_value c.cells.inside.cache }) c.cells-2.result.now c.cells.inside.problems.items
    c.evaluated.new.problems.items c.timed.result.now c.in_ok-draft.draft.records c.run_due.new.records (ap (map roomless) c.cells-2.ensures ∙ ap (λ v. v.items) c.cells.view_is) (ap (λ v. v.problems) c.cells.view_is) c.timed.ensures c.in_ok-draft.ensures.runs
    c.in-Ok.ensures.records c.in-Ok.ensures.rows (ap (λ v. v.items) c.cells.view_is) (ap (λ v. v.memories) c.cells.view_is) refl

pub returns-in-Ok-clause-counted : goal.returns-in-Ok-clause-counted
returns-in-Ok-clause-counted g c = c.in_ok-draft.ensures.counted ∙ ap (λ (ids : List ℕ). c.args.steps.now + length ids) (asked_all c.args.ready.now.conf c.timed.result.now ∙ c.timed.ensures)

pub returns-in-Ok-clause-most : goal.returns-in-Ok-clause-most
returns-in-Ok-clause-most g c = subst (λ (ids : List ℕ). c.evaluated.new.steps ≤ c.args.steps.now + length ids) (asked_all c.args.ready.now.conf c.timed.result.now ∙ c.timed.ensures) c.evaluated.ensures.most

pub returns-in-Err-clause-most : goal.returns-in-Err-clause-most
returns-in-Err-clause-most g c = subst (λ (ids : List ℕ). c.evaluated.new.steps ≤ c.args.steps.now + length ids) (asked_all c.args.ready.now.conf c.timed.result.now ∙ c.timed.ensures) c.evaluated.ensures.most

pub returns-in_err-draft-clause-most : goal.returns-in_err-draft-clause-most
returns-in_err-draft-clause-most g c = subst (λ (ids : List ℕ). c.evaluated.new.steps ≤ c.args.steps.now + length ids) (asked_all c.args.ready.now.conf c.timed.result.now ∙ c.timed.ensures) c.evaluated.ensures.most
