use Rattle.std.proofs.Common.{◌≡◌, ◌+◌, ◌≤◌, ◌∙◌, length, List, ℕ, Some, ap, sym, subst, filter}
use Rattle.std.specs.Arc.{arc_value}
use Rattle.zbx_types.specs.declared.entries.Entry.{Entry}
use Rattle.zbx_types.specs.declared.entries.Entry.TheVariants.{Value}
use Rattle.preprocess.specs.Visits.{memory_in}
use Rattle.value_cache.specs.Tokens.{CacheId}
use Rattle.preprocess.specs.Draft.{failures_of, AreIn}
use Rattle.preprocess.specs.Cached.{DraftView}
use Rattle.preprocess.specs.declared.visit.Visit.{Visit}
use Rattle.entry_step.specs.History.{visits_at}
use Rattle.conf_index.specs.Index.{triggers_under}
use Rattle.entry_step.specs.Records.{triggers_at}
use Rattle.entry_step.specs.Represents.{CellsView}
use Rattle.entry_step.specs.Changes.{is_asked}
use Rattle.entry_step.proofs.Loops.{on_on}
use Rattle.entry_step.proofs.Taking.{takes_in, same_view, same_parts, ok_both, err_both, err_const}
use Rattle.entry_step.proofs.Visited.{triggers_listed}
use Rattle.entry_step.proofs.stepping.take_value.Goals as goal

pub returns-clause-ok : goal.returns-clause-ok
returns-clause-ok g c =
    let conf = c.args.ready.now.conf in
    let number : ℕ = c.args.occasion.now.number in
    let entry : Entry = Value c.args.occasion.now.now c.args.item c.args.time c.args.value.now in
    let of : CellsView → List Visit = λ view. visits_at conf (memory_in view.memories) number entry in
    let draft : DraftView = c.in_ok-draft.field-0.draft in
    let visits : draft.visits ≡ of c.args.cells.now = c.in_ok-draft.ensures.prepared.visits ∙ ap of c.cells.view_is in
    let failures : c.in_ok-draft.field-0.failures ≡ failures_of conf number (of c.args.cells.now) =
    c.in_ok-draft.ensures.prepared.failures ∙ ap (λ view. failures_of conf number (of view)) c.cells.view_is in
    let listed : filter (is_asked conf (Some draft)) (triggers_under conf c.args.item) ≡ triggers_at conf (memory_in c.args.cells.now.memories) number entry =
    ap (λ (vs : List Visit). filter (is_asked conf (Some (record { visits = vs; tokens = draft.tokens }))) (triggers_under conf c.args.item)) visits ∙ triggers_listed conf (memory_in c.args.cells.now.memories) number c.args.occasion.now.now c.args.item c.args.time c.args.value.now draft.tokens in
    ok_both c.take_draft.result _ _ _
    (λ made drafted becomes.
    takes_in c.args.ready.now c.args.occasion.now draft (of c.args.cells.now) c.in_ok-draft.field-0.failures (filter (is_asked conf (Some draft)) (triggers_under conf c.args.item)) (triggers_at conf (memory_in c.args.cells.now.memories) number entry)
    c.cells.inside.items c.prepare.new.cells c.take_draft.new.items c.cells.inside.problems.items c.take_draft.new.problems.items c.cells.inside.tick (arc_value c.cells.inside.cache) c.args.cells.now made (sym c.cells.view_is) visits failures listed c.in_ok-draft.ensures.same drafted becomes)
    c.take_draft.ensures.made c.take_draft.ensures.came

pub returns-clause-counted : goal.returns-clause-counted
returns-clause-counted g c =
    let conf = c.args.ready.now.conf in
    let number : ℕ = c.args.occasion.now.number in
    let entry : Entry = Value c.args.occasion.now.now c.args.item c.args.time c.args.value.now in
    let of : CellsView → List Visit = λ view. visits_at conf (memory_in view.memories) number entry in
    let draft : DraftView = c.in_ok-draft.field-0.draft in
    let visits : draft.visits ≡ of c.args.cells.now = c.in_ok-draft.ensures.prepared.visits ∙ ap of c.cells.view_is in
    let listed : filter (is_asked conf (Some draft)) (triggers_under conf c.args.item) ≡ triggers_at conf (memory_in c.args.cells.now.memories) number entry =
    ap (λ (vs : List Visit). filter (is_asked conf (Some (record { visits = vs; tokens = draft.tokens }))) (triggers_under conf c.args.item)) visits ∙ triggers_listed conf (memory_in c.args.cells.now.memories) number c.args.occasion.now.now c.args.item c.args.time c.args.value.now draft.tokens in
    on_on c.take_draft.result _ _ (λ p. p ∙ ap (λ (ids : List ℕ). c.args.steps.now + length ids) listed) c.take_draft.ensures.counted

pub returns-clause-most : goal.returns-clause-most
returns-clause-most g c =
    let conf = c.args.ready.now.conf in
    let number : ℕ = c.args.occasion.now.number in
    let entry : Entry = Value c.args.occasion.now.now c.args.item c.args.time c.args.value.now in
    let of : CellsView → List Visit = λ view. visits_at conf (memory_in view.memories) number entry in
    let draft : DraftView = c.in_ok-draft.field-0.draft in
    let visits : draft.visits ≡ of c.args.cells.now = c.in_ok-draft.ensures.prepared.visits ∙ ap of c.cells.view_is in
    let listed : filter (is_asked conf (Some draft)) (triggers_under conf c.args.item) ≡ triggers_at conf (memory_in c.args.cells.now.memories) number entry =
    ap (λ (vs : List Visit). filter (is_asked conf (Some (record { visits = vs; tokens = draft.tokens }))) (triggers_under conf c.args.item)) visits ∙ triggers_listed conf (memory_in c.args.cells.now.memories) number c.args.occasion.now.now c.args.item c.args.time c.args.value.now draft.tokens in
    subst (λ (ids : List ℕ). c.take_draft.new.steps ≤ c.args.steps.now + length ids) listed c.take_draft.ensures.most

pub returns-clause-err : goal.returns-clause-err
returns-clause-err g c =
    err_both c.take_draft.result _ _ _
    (λ items problems. same_parts c.prepare.new.cells c.take_draft.new.items c.cells.inside.problems.items c.take_draft.new.problems.items c.cells.inside.tick (arc_value c.cells.inside.cache) c.args.cells.now items problems
    (same_view c.cells.inside.items c.prepare.new.cells c.cells.inside.problems.items c.cells.inside.tick (arc_value c.cells.inside.cache) c.args.cells.now c.prepare.ensures.same c.cells.view_is))
    c.take_draft.ensures.items c.take_draft.ensures.problems

pub returns-in_err-draft-clause-err : goal.returns-in_err-draft-clause-err
returns-in_err-draft-clause-err g c = err_const c.from_residual.result _ (same_view c.cells.inside.items c.prepare.new.cells c.cells.inside.problems.items c.cells.inside.tick (arc_value c.cells.inside.cache) c.args.cells.now c.prepare.ensures.same c.cells.view_is)

pub take_draft-requires-clause-cached : goal.take_draft-requires-clause-cached
take_draft-requires-clause-cached g c =
    subst (λ (cache : CacheId). AreIn cache c.prepare.new.cells.cells.items) (sym c.deref-2.ensures) (c.prepare.ensures.of (arc_value c.cells.inside.cache) c.cells.invariant)

pub invariant_of-cells : goal.invariant_of-cells
invariant_of-cells g c = c.prepare.ensures.of (arc_value c.cells.inside.cache) c.cells.invariant
