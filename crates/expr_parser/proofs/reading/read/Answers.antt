use Rattle.std.proofs.Common.{arith, rules, sym, ◌≡◌, ◌≤◌, length, ℕ, subst, None}
use Rattle.zbx_types.specs.Trees.{tree_of}
use Rattle.zbx_types.specs.Limits.{longest_expression}
use Rattle.expr_parser.specs.Grammar.{IsText}
use Rattle.expr_parser.specs.Fault.{IsFault}
use Rattle.expr_parser.specs.Machine.{ends}
use Rattle.expr_parser.specs.View.{state}
use Rattle.expr_parser.proofs.Bounds.{expr_below, calls_bounded}
use Rattle.expr_parser.proofs.KeyRuns.{first_left, left, reached_on}
use Rattle.expr_parser.proofs.Places.{reached_start, fault_limit, fault_stop, none_stop, fault_end, found_end, ends_with, ends_none, ok_map, err_map}
use Rattle.expr_parser.proofs.reading.read.Goals as goal

pub loop-count-init : goal.loop-count-init
loop-count-init c = record { within = omega arith; fits = omega arith; reached = rw c.in-Ok.ensures (reached_start c.args.text.now) }

pub returns-then-count-eq-LONGEST-clause-place : goal.returns-then-count-eq-LONGEST-clause-place
returns-then-count-eq-LONGEST-clause-place c = λ at e n.
    let f : c.loop-count.count ≡ at = cc in
    subst (λ (i : ℕ). IsFault IsText longest_expression c.args.text.now i) f
    (fault_limit c.args.text.now c.loop-count.count (state c.loop-count.state.value) (omega arith) (omega arith) c.loop-count.invariant.reached)

pub returns-in-Ok-None-clause-none : goal.returns-in-Ok-None-clause-none
returns-in-Ok-None-clause-none c = λ at e x ks t l.
    let stops = c.in-Ok-None.ensures.stops c.in-Ok-None.field-0-is in
    absurd (none_stop c.args.text.now c.loop-count.count (state c.loop-count.state.value) (omega arith) c.loop-count.invariant.reached (rw (left c.args.text.now c.loop-count.count, first_left c.args.text.now c.loop-count.count) at stops) x ks t)

pub returns-in-Ok-None-clause-dates : goal.returns-in-Ok-None-clause-dates
returns-in-Ok-None-clause-dates c = λ at e x ks t l.
    let stops = c.in-Ok-None.ensures.stops c.in-Ok-None.field-0-is in
    absurd (none_stop c.args.text.now c.loop-count.count (state c.loop-count.state.value) (omega arith) c.loop-count.invariant.reached (rw (left c.args.text.now c.loop-count.count, first_left c.args.text.now c.loop-count.count) at stops) x ks t)

pub returns-in-Ok-None-clause-place : goal.returns-in-Ok-None-clause-place
returns-in-Ok-None-clause-place c = λ at e n.
    let stops = c.in-Ok-None.ensures.stops c.in-Ok-None.field-0-is in
    let f : c.loop-count.count ≡ at = cc in
    subst (λ (i : ℕ). IsFault IsText longest_expression c.args.text.now i) f
    (fault_stop c.args.text.now c.loop-count.count (state c.loop-count.state.value) (omega arith) (omega arith) c.loop-count.invariant.reached (rw (left c.args.text.now c.loop-count.count, first_left c.args.text.now c.loop-count.count) at stops))

pub loop-count-preserved : goal.loop-count-preserved
loop-count-preserved c =
    let goes = c.in-Ok-Some.ensures.goes c.in-Ok-Some.on c.in-Ok-Some.field-0-is in
    record {
      within = search rules;
      fits = search rules;
      reached = reached_on c.args.text.now c.loop-count.count c.in-Ok-Some.on.taken (state c.loop-count.state.value) (state c.in-Ok-Some.on.state.value) c.loop-count.invariant.reached (rw (left c.args.text.now c.loop-count.count) at goes.3);
    }

pub returns-clause-found : goal.returns-clause-found
returns-clause-found c =
    let i : c.loop-count.count ≡ length c.args.text.now = omega arith in
    let l : length c.args.text.now ≤ longest_expression = omega arith in
    ok_map c.answer.result (λ p h. (found_end c.args.text.now c.loop-count.count (state c.loop-count.state.value) (tree_of p.expr) p.calls i c.loop-count.invariant.reached h.0, l, h.1)) c.answer.ensures.found

pub returns-clause-below : goal.returns-clause-below
returns-clause-below c =
    let i : c.loop-count.count ≡ length c.args.text.now = omega arith in
    ok_map c.answer.result (λ p h. expr_below (found_end c.args.text.now c.loop-count.count (state c.loop-count.state.value) (tree_of p.expr) p.calls i c.loop-count.invariant.reached h.0)) c.answer.ensures.found

pub returns-clause-bounded : goal.returns-clause-bounded
returns-clause-bounded c =
    let i : c.loop-count.count ≡ length c.args.text.now = omega arith in
    ok_map c.answer.result (λ p h. calls_bounded (found_end c.args.text.now c.loop-count.count (state c.loop-count.state.value) (tree_of p.expr) p.calls i c.loop-count.invariant.reached h.0)) c.answer.ensures.found

pub returns-clause-none : goal.returns-clause-none
returns-clause-none c =
    let i : c.loop-count.count ≡ length c.args.text.now = omega arith in
    err_map c.answer.result (λ x h at e f ks t l. (h at e f ks (ends_with c.args.text.now c.loop-count.count (state c.loop-count.state.value) f ks i c.loop-count.invariant.reached t)).1) c.answer.ensures.dates

pub returns-clause-dates : goal.returns-clause-dates
returns-clause-dates c =
    let i : c.loop-count.count ≡ length c.args.text.now = omega arith in
    err_map c.answer.result (λ x h at e f ks t l. (h at e f ks (ends_with c.args.text.now c.loop-count.count (state c.loop-count.state.value) f ks i c.loop-count.invariant.reached t)).0) c.answer.ensures.dates

pub returns-clause-place : goal.returns-clause-place
returns-clause-place c =
    let i : c.loop-count.count ≡ length c.args.text.now = omega arith in
    let m : c.loop-count.count ≤ longest_expression = omega arith in
    err_map c.answer.result (λ x h at e n.
    let z : ends (state c.loop-count.state.value) ≡ None = ends_none c.args.text.now c.loop-count.count (state c.loop-count.state.value) i m c.loop-count.invariant.reached n in
    subst (λ (j : ℕ). IsFault IsText longest_expression c.args.text.now j) (sym (h at e z))
    (fault_end c.args.text.now c.loop-count.count (state c.loop-count.state.value) i m c.loop-count.invariant.reached)) c.answer.ensures.none
