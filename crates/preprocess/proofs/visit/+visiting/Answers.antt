use Rattle.std.proofs.Common.{◌-◌, ℕ, Some, None, refl, ap, sym, ◌∙◌}
use Rattle.std.proofs.lemmas.Result.{IfOk-weaker}
use Rattle.preprocess.specs.Chain.{chain_of}
use Rattle.preprocess.specs.Ways.{memory_at}
use Rattle.preprocess.specs.Visits.{memory_in}
use Rattle.preprocess.specs.Cached.{visits_shown}
use Rattle.preprocess.specs.Walks.{walk}
use Rattle.preprocess.proofs.Walking.{walk_none, below_none, below_some, ways_are, below_are, alone, nothing, finished, passed, stops, goes, at_found}
use Rattle.preprocess.proofs.visit.+visiting.Goals as goal

pub go_through-returns-in_default-clause-shown : goal.go_through-returns-in_default-clause-shown
go_through-returns-in_default-clause-shown t c =
    nothing (visits_shown c.args.visits.now) _ (walk_none c.args.conf.now (memory_in c.args.memories.now) c.args.time c.args.number c.args.down c.args.id c.args.value.now
    (at_found c.args.conf.now.items c.as_slice.result.now c.args.id None c.as_slice.ensures c.in_default.ensures))

pub go_through-run_chain-requires-clause-ways : goal.go_through-run_chain-requires-clause-ways
go_through-run_chain-requires-clause-ways t c =
    c.ways.ensures ∙ ways_are c.args.conf.now c.args.patterns.now c.args.chains.now c.args.id c.in-Some.item.now c.requires.chains
    (at_found c.args.conf.now.items c.as_slice.result.now c.args.id (Some c.in-Some.item.now) c.as_slice.ensures c.in-Some.ensures)

pub go_through-returns-then-is_alone-clause-shown : goal.go_through-returns-then-is_alone-clause-shown
go_through-returns-then-is_alone-clause-shown t c =
    let there = at_found c.args.conf.now.items c.as_slice.result.now c.args.id (Some c.in-Some.item.now) c.as_slice.ensures c.in-Some.ensures in
    alone c.args.conf.now (memory_in c.args.memories.now) c.args.time c.args.number c.args.down c.args.id c.args.value.now c.in-Some.item.now c.in_ok-left_plainly.field-0 (visits_shown c.args.visits.now) (visits_shown c.add_visit.new.visits) there
    (c.in_ok-left_plainly.ensures (memory_in c.args.memories.now c.args.id))
    (sym (c.below.ensures ∙ below_are c.args.conf.now c.args.patterns.now c.args.chains.now c.args.id c.in-Some.item.now c.requires.chains there) ∙ c.is_alone.ensures.below c.if-is_alone.true) c.in_ok-add_visit.ensures.shown

pub go_through-returns-in-None-clause-shown : goal.go_through-returns-in-None-clause-shown
go_through-returns-in-None-clause-shown t c =
    stops c.args.conf.now (memory_in c.args.memories.now) c.args.time c.args.number c.args.down c.args.id c.args.value.now c.in-Some.item.now c.in_ok-chained.chained c.left_by-visit.result.visit (visits_shown c.args.visits.now) (visits_shown c.add_visit-2.new.visits)
    (at_found c.args.conf.now.items c.as_slice.result.now c.args.id (Some c.in-Some.item.now) c.as_slice.ensures c.in-Some.ensures)
    (c.in_ok-chained.ensures ∙ ap (λ own. chain_of c.in-Some.item.now (memory_at own) c.args.value.now c.args.time) c.memories_of-own.ensures)
    c.left_by-visit.ensures.visit c.in_ok-add_visit-2.ensures.shown (sym c.left_by-visit.ensures.text ∙ c.in-None.is)

pub go_through-returns-in-Some-text-clause-shown : goal.go_through-returns-in-Some-text-clause-shown
go_through-returns-in-Some-text-clause-shown t c = IfOk-weaker c.visit_below.result _ _ (λ ok after.
    goes c.args.conf.now (memory_in c.args.memories.now) c.args.time c.args.number c.args.down c.args.id c.args.value.now c.in-Some-text.text c.in-Some.item.now c.in_ok-chained.chained c.left_by-visit.result.visit c.below-below.result.now (visits_shown c.args.visits.now) (visits_shown c.add_visit-2.new.visits) (visits_shown c.visit_below.new.visits)
    (at_found c.args.conf.now.items c.as_slice.result.now c.args.id (Some c.in-Some.item.now) c.as_slice.ensures c.in-Some.ensures)
    (c.in_ok-chained.ensures ∙ ap (λ own. chain_of c.in-Some.item.now (memory_at own) c.args.value.now c.args.time) c.memories_of-own.ensures)
    c.left_by-visit.ensures.visit c.in_ok-add_visit-2.ensures.shown (sym c.left_by-visit.ensures.text ∙ c.in-Some-text.is)
    (c.below-below.ensures ∙ below_are c.args.conf.now c.args.patterns.now c.args.chains.now c.args.id c.in-Some.item.now c.requires.chains
    (at_found c.args.conf.now.items c.as_slice.result.now c.args.id (Some c.in-Some.item.now) c.as_slice.ensures c.in-Some.ensures))
    after) c.visit_below.ensures.shown

pub visit_below-returns-then-down-eq0-clause-shown : goal.visit_below-returns-then-down-eq0-clause-shown
visit_below-returns-then-down-eq0-clause-shown t c =
    nothing (visits_shown c.args.visits.now) _ (below_none c.args.conf.now (memory_in c.args.memories.now) c.args.time c.args.number c.args.down c.args.ids.now c.args.value.now c.if-down-eq0.true)

pub visit_below-returns-clause-shown : goal.visit_below-returns-clause-shown
visit_below-returns-clause-shown t c =
    let one = λ (d : ℕ). walk c.args.conf.now (memory_in c.args.memories.now) c.args.time c.args.number (c.args.down - 1) d c.args.value.now in
    finished one c.args.ids.now c.loop-id.id-index (visits_shown c.args.visits.now) (visits_shown c.loop-id.visits) _ c.loop-id-test.false c.loop-id.invariant.shown
    (below_some c.args.conf.now (memory_in c.args.memories.now) c.args.time c.args.number c.args.down c.args.ids.now c.args.value.now c.if-down-eq0.false)

pub go_through-returns-in-Some-text-clause-of : goal.go_through-returns-in-Some-text-clause-of
go_through-returns-in-Some-text-clause-of t c = IfOk-weaker c.visit_below.result _ _ (λ ok after h. after (c.in_ok-add_visit-2.ensures.of h)) c.visit_below.ensures.of

pub visit_below-loop-id-preserved : goal.visit_below-loop-id-preserved
visit_below-loop-id-preserved t c =
    let one = λ (d : ℕ). walk c.args.conf.now (memory_in c.args.memories.now) c.args.time c.args.number (c.args.down - 1) d c.args.value.now in
    record {
      shown = passed one c.args.ids.now c.loop-id.id-index _ _ (visits_shown c.loop-id.visits) (visits_shown c.go_through.new.visits) _ c.loop-id-test.true refl c.in_ok-go_through.ensures.shown c.loop-id.invariant.shown;
      of = λ h. c.in_ok-go_through.ensures.of (c.loop-id.invariant.of h);
    }
