use Rattle.std.proofs.Common.{◌≡◌, to_z, of_z, w16, w64, arith, refl}
use Rattle.std.proofs.lemmas.Int.{ints}
use Rattle.std.proofs.lemmas.Bool.{false≢true}
use Rattle.jiff_core.specs.Date.{epoch_day}
use Rattle.maintenance.proofs.MonthLemmas.{year_test, no_date}
use Rattle.maintenance.proofs.periods.in_year.Goals as goal

pub returns-in-Some : goal.returns-in-Some
returns-in-Some c =
    let a = c.args in
    let year : to_z w16 (of_z w16 a.year) ≡ a.year = omega (arith, ints) in
    let day : to_z w64 (of_z w64 c.from.result) ≡ epoch_day c.in-Some.date = omega (arith, ints, c.from.ensures, c.to_unix_epoch_day.ensures.value) in
    year_test a.span.offset _ _ a.year a.month a.number a.at a.span.since a.span.length a.span.now c.in-Some.date refl day (rw year at c.in-Some.ensures) c.on_days.ensures

pub returns-in-None : goal.returns-in-None
returns-in-None c =
    let a = c.args in
    let year : to_z w16 (of_z w16 a.year) ≡ a.year = omega (arith, ints) in
    (λ t. absurd (false≢true t), λ w. absurd (no_date a.span.offset a.year a.month a.number a.at a.span.since a.span.length a.span.now (rw year at c.in-None.ensures) w))
