use Rattle.std.proofs.Common.{rules, SFits, w32, arith, refl}
use Rattle.std.proofs.lemmas.Int.{ints}
use Rattle.maintenance.proofs.Within.{tests_as}
use Rattle.maintenance.proofs.DayLemmas.{series_days}
use Rattle.maintenance.proofs.series.on_days.Goals as goal

pub returns : goal.returns
returns c =
    let a = c.args in
    let fits : SFits w32 a.span.offset = search rules in
    tests_as _ _ a.span.length a.span.now
    (series_days a.span.offset a.first _ a.step a.at a.span.since _ (omega (arith, ints, c.second_of.ensures.value)) refl)
    c.in_series.ensures
