use Rattle.std.proofs.Common.{rules, ◌≡◌, ◌∙◌, ℕ, ap, SFits, to_z, of_z, w32, arith}
use Rattle.std.proofs.lemmas.Int.{ints}
use Rattle.maintenance.specs.Days.{IsOnDay}
use Rattle.maintenance.specs.Starts.{IsWeeklyDay, IsMonthlyDay, length_of}
use Rattle.maintenance.proofs.Within.{sorts_test}
use Rattle.maintenance.proofs.periods.in_period.Goals as goal

pub returns-in-Daily : goal.returns-in-Daily
returns-in-Daily c =
    let fits : SFits w32 c.args.conf.now.utc_offset = search rules in
    let same : to_z w32 (of_z w32 c.args.conf.now.utc_offset) ≡ c.args.conf.now.utc_offset = omega (arith, ints) in
    let size = c.length_of.ensures ∙ ap length_of c.in-Daily.is in
    rw c.in-Daily.is (rw (same, size) at c.in_daily.ensures)

pub returns-in-Weekly : goal.returns-in-Weekly
returns-in-Weekly c =
    let a = c.args in
    let offset = a.conf.now.utc_offset in
    let w = c.in-Weekly in
    let fits : SFits w32 c.args.conf.now.utc_offset = search rules in
    let same : to_z w32 (of_z w32 c.args.conf.now.utc_offset) ≡ c.args.conf.now.utc_offset = omega (arith, ints) in
    let size = c.length_of.ensures ∙ ap length_of w.is in
    rw w.is (sorts_test (λ (weekday : ℕ). IsOnDay offset (IsWeeklyDay offset a.since w.every weekday) w.at) w.days a.since w.length a.now (rw (same, size, c.as_slice.ensures) at c.in_weekly.ensures))

pub returns-in-Monthly : goal.returns-in-Monthly
returns-in-Monthly c =
    let a = c.args in
    let offset = a.conf.now.utc_offset in
    let m = c.in-Monthly in
    let fits : SFits w32 c.args.conf.now.utc_offset = search rules in
    let same : to_z w32 (of_z w32 c.args.conf.now.utc_offset) ≡ c.args.conf.now.utc_offset = omega (arith, ints) in
    let size = c.length_of.ensures ∙ ap length_of m.is in
    rw m.is (sorts_test (λ (month : ℕ). IsOnDay offset (IsMonthlyDay m.day month) m.at) m.months a.since m.length a.now (rw (same, size, c.as_slice-in-Monthly.ensures) at c.in_monthly.ensures))
