use Rattle.std.proofs.Common.{rules, SFits, ◌≡◌, ◌∙◌, ◌*◌, ap, pos, to_z, of_z, w32, w64, arith, refl}
use Rattle.std.proofs.lemmas.Bool.{false≢true}
use Rattle.std.proofs.lemmas.Int.{ints}
use Rattle.local_time.specs.Days.{monday_of}
use Rattle.maintenance.proofs.DayLemmas.{local_day_is}
use Rattle.maintenance.proofs.WeekLemmas.{weekly_test, no_weekday}
use Rattle.maintenance.proofs.periods.on_weekday.Goals as goal

pub returns-then-weekday-eq0 : goal.returns-then-weekday-eq0
returns-then-weekday-eq0 c =
    let a = c.args in
    (λ t. absurd (false≢true t), λ w. absurd (no_weekday a.span.offset a.every a.weekday a.at a.span.since a.span.length a.span.now c.then-weekday-eq0.either w))

pub returns : goal.returns
returns c =
    let a = c.args in
    let fits : SFits w32 a.span.offset = search rules in
    let same : to_z w32 (of_z w32 a.span.offset) ≡ a.span.offset = omega (arith, ints) in
    let second : to_z w64 (of_z w64 c.from.result) ≡ pos a.span.since = omega (arith, ints, c.from.ensures) in
    let day = local_day_is _ _ _ _ _ same second c.local_day.ensures.value in
    let back : to_z w64 (of_z w64 c.local_day.result) ≡ c.local_day.result = omega (arith, ints) in
    let monday = c.monday_of-monday.ensures.value ∙ ap monday_of (back ∙ day) in
    weekly_test a.span.offset _ c.monday_of-monday.result _ a.every a.weekday _ a.at a.span.since a.span.length a.span.now refl monday
    (omega (arith, ints, c.from-2.ensures)) (ap (λ n. 7 * n) c.from-3.ensures) (omega arith) (omega arith) c.on_days.ensures
