use Rattle.std.proofs.Common.{rules, SFits, ◌≡◌, ◌∙◌, pos, to_z, of_z, w32, w64, arith, refl}
use Rattle.std.proofs.lemmas.Int.{ints}
use Rattle.maintenance.proofs.DayLemmas.{daily_test, local_day_is}
use Rattle.maintenance.proofs.periods.in_daily.Goals as goal

pub returns : goal.returns
returns c =
    let a = c.args in
    let fits : SFits w32 a.span.offset = search rules in
    let same : to_z w32 (of_z w32 a.span.offset) ≡ a.span.offset = omega (arith, ints) in
    let second : to_z w64 (of_z w64 c.from.result) ≡ pos a.span.since = omega (arith, ints, c.from.ensures) in
    let day = local_day_is _ _ _ _ _ same second c.local_day.ensures.value in
    let back : to_z w64 (of_z w64 c.local_day.result) ≡ c.local_day.result = omega (arith, ints) in
    daily_test a.span.offset _ _ a.every _ a.at a.span.since a.span.length a.span.now refl (back ∙ day) c.from-2.ensures c.on_days.ensures
