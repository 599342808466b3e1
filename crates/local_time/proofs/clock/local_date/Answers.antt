use Rattle.std.proofs.Common.{◌≡◌, pos, rules}
use Rattle.jiff_core.specs.Date.{epoch_day}
use Rattle.local_time.specs.Days.{local_day}
use Rattle.local_time.proofs.ClockLemmas.{date_parts}
use Rattle.local_time.proofs.clock.local_date.Goals as goal

pub returns-clause-year : goal.returns-clause-year
returns-clause-year c =
    let day : epoch_day c.date_of.result ≡ local_day c.args.offset (pos c.args.second) = search rules in
    (date_parts c.args.second c.args.offset c.date_of.result c.ranges.second.fits c.requires day).year

pub returns-clause-month : goal.returns-clause-month
returns-clause-month c =
    let day : epoch_day c.date_of.result ≡ local_day c.args.offset (pos c.args.second) = search rules in
    (date_parts c.args.second c.args.offset c.date_of.result c.ranges.second.fits c.requires day).month

pub returns-clause-number : goal.returns-clause-number
returns-clause-number c =
    let day : epoch_day c.date_of.result ≡ local_day c.args.offset (pos c.args.second) = search rules in
    (date_parts c.args.second c.args.offset c.date_of.result c.ranges.second.fits c.requires day).day_is
