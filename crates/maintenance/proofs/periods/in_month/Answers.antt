use Rattle.std.proofs.Common.{rules, SFits, ◌≡◌, ◌∙◌, ◌/◌, pos, ◌+ℤ◌, ◌-ℤ◌, to_z, of_z, w16, w32, w64, arith, refl}
use Rattle.std.proofs.lemmas.Int.{ints}
use Rattle.jiff_core.specs.Date.{epoch_day}
use Rattle.maintenance.proofs.DayLemmas.{local_day_is}
use Rattle.maintenance.proofs.MonthLemmas.{month_test}
use Rattle.maintenance.proofs.periods.in_month.Goals as goal

pub returns : goal.returns
returns c =
    let a = c.args in
    let low = c.date_of.result in
    let high = c.date_of-end.result in
    let fits : SFits w32 a.span.offset = search rules in
    let same : to_z w32 (of_z w32 a.span.offset) ≡ a.span.offset = omega (arith, ints) in
    let second : to_z w64 (of_z w64 (to_z w64 (of_z w64 c.from.result) -ℤ to_z w64 (of_z w64 c.from-2.result))) ≡ pos a.span.now -ℤ pos a.at = omega (arith, ints, c.from.ensures, c.from-2.ensures) in
    let last = local_day_is _ _ _ _ _ same second c.local_day-last.ensures.value in
    let till : epoch_day high ≡ c.local_day-last.result = omega (arith, ints, c.date_of-end.ensures) in
    let from : epoch_day low ≡ c.local_day-last.result -ℤ pos (a.span.length / 86400) = omega (arith, ints, c.date_of.ensures, c.from-3.ensures, c.local_day-last.ensures.bound) in
    let low_year = low.year_in in
    let high_year = high.year_in in
    let first : to_z w16 (of_z w16 low.year) ≡ low.year = omega (arith, ints) in
    let end : to_z w16 (of_z w16 (to_z w16 (of_z w16 high.year) +ℤ pos 1)) ≡ high.year +ℤ pos 1 = omega (arith, ints) in
    month_test a.span.offset _ _ _ a.month a.number a.at a.span.since a.span.length a.span.now low high refl first end (rw last at from) (till ∙ last) c.in_years.ensures
