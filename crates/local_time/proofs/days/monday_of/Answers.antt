use Rattle.std.proofs.Common.{◌≡◌, ◌∙◌, ap, arith, pos}
use Rattle.std.proofs.lemmas.Int.{ints}
use Rattle.jiff_core.specs.Calendar.{weekday_number}
use Rattle.jiff_core.specs.Date.{weekday_of}
use Rattle.jiff_core.proofs.CalendarLemmas.{weekday_number_bound}
use Rattle.local_time.proofs.days.monday_of.Goals as goal

pub returns-clause-value : goal.returns-clause-value
returns-clause-value c =
    let date = c.date_of.result in
    let zero : c.to_monday_zero_offset.result ≡ pos (weekday_of date) = c.to_monday_zero_offset.ensures.value ∙ ap pos c.weekday.ensures in
    let day : weekday_of date ≡ weekday_number c.args.day = ap weekday_number (omega (arith, ints, c.date_of.ensures)) in
    let small = weekday_number_bound c.args.day in
    omega (arith, ints, zero, day, small, c.from.ensures)
