use Rattle.std.proofs.Common.{◌≡◌, ℕ, ◌+◌, ◌*◌, ◌≤◌, ◌<◌, pos, ◌+ℤ◌, IsTrue, arith, leb}
use Rattle.std.proofs.lemmas.Int.{ints}
use Rattle.std.proofs.lemmas.Bool.Decides.{nat_tests}
use Rattle.maintenance.proofs.SeriesLemmas.{series_holds, series_late}
use Rattle.maintenance.proofs.series.in_series.Goals as goal

test_of : (a b since late now : ℕ) → a ≡ since → b ≡ now → since + late ≤ now → IsTrue (leb (a + late) b)
test_of a b since late now e f h = grind (arith, nat_tests)

of_test : (a b since late now : ℕ) → a ≡ since → b ≡ now → IsTrue (leb (a + late) b) → since + late ≤ now
of_test a b since late now e f h = grind (arith, nat_tests)

pub returns-then-late-from : goal.returns-then-late-from
returns-then-late-from c =
    let span = c.args.span in
    let late = c.rest-late.result in
    let times = c.rest-late.ensures.multiple.0 in
    let whole = c.rest-late.ensures.multiple.1 in
    let here = c.from-now.ensures in
    let e : c.args.first +ℤ pos (times * c.args.step + late) ≡ pos span.now = omega (arith, ints) in
    let short : late < span.length = omega (arith, c.from.ensures, c.if-late-from.true) in
    let since = c.from-then-late-from.ensures in
    let till = c.from-then-late-from-2.ensures in (
      λ t. series_holds c.args.first c.args.step span.since span.length span.now late times e short (of_test _ _ span.since late span.now since till t),
      λ h. test_of _ _ span.since late span.now since till
          (series_late c.args.first c.args.step span.since span.length span.now (times * c.args.step + late) late e
          (λ more fits. omega (arith, whole, c.rest-late.ensures.least more (omega (arith, whole)))) h).1,
    )
