use Rattle.std.proofs.Common.{rules, ◌≡◌, ap, true, false, refl, Ordering, Less, Equal, Greater}
use Rattle.std.specs.Cmp.Lexicographic.{slice_cmp, nat_list_cmp_total}
use Rattle.std.specs.Ordering.{nat_cmp, is_lt}
use Rattle.zbx_types.specs.declared.base.Ran.{Ran}
use Rattle.entry_step.specs.Each.{EachPair}
use Rattle.base_state.specs.Fitting.{RunsBefore}
use Rattle.base_state.proofs.Pairs.{no, is_not, pairs_on, pairs_at}
use Rattle.base_state.proofs.fitting_problems.run_in_order.Goals as goal

less_is : (r : Ordering) → is_lt r ≡ true → r ≡ Less
less_is Less e = refl
less_is Equal e = absurd (cc)
less_is Greater e = absurd (cc)

goes_on : (a b c : Ran) → RunsBefore a b → RunsBefore b c → RunsBefore a c
goes_on a b c e f =
    ap is_lt (nat_list_cmp_total.trans a.action b.action c.action (less_is (slice_cmp nat_cmp a.action b.action) e) (less_is (slice_cmp nat_cmp b.action c.action) f))

pub returns-then-not-runs_before : goal.returns-then-not-runs_before
returns-then-not-runs_before c =
    let off : c.runs_before.result ≡ false = search rules in
    no (EachPair RunsBefore c.args.ran.now) (λ e. is_not c.runs_before.result (RunsBefore c.index-ran-place.result c.index-ran-place-in-loop-place.result) off c.runs_before.ensures
    (pairs_at RunsBefore c.args.ran.now c.loop-place.place c.index-ran-place.result c.index-ran-place-in-loop-place.result c.loop-place.auto.place c.loop-place-test.true c.index-ran-place.is
    c.index-ran-place-in-loop-place.is e))

pub loop-place-preserved : goal.loop-place-preserved
loop-place-preserved c =
    let on : c.runs_before.result ≡ true = search rules in
    pairs_on RunsBefore c.args.ran.now c.loop-place.place c.index-ran-place.result c.index-ran-place-in-loop-place.result c.loop-place.auto.place c.loop-place-test.true c.index-ran-place.is
    c.index-ran-place-in-loop-place.is goes_on (c.runs_before.ensures.0 on) c.loop-place.invariant
