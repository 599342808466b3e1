-- Weekdays of the weeks that lie a step apart.
use Rattle.std.proofs.Common.{◌≡◌, ◌↔◌, ◌⊎◌, ℕ, ◌+◌, ◌-◌, ◌*◌, ◌≤◌, ◌<◌, ℤ, pos, ◌+ℤ◌, arith}
use Rattle.std.proofs.Math.Nat.{mul_left_comm}
use Rattle.jiff_core.specs.Calendar.{weekday_number}
use Rattle.jiff_core.proofs.SignedLemmas.{signed_arith}
use Rattle.jiff_core.proofs.CalendarLemmas.{weekday_number-add, weekday_number_bound}
use Rattle.local_time.specs.Days.{local_day, monday_of}
use Rattle.maintenance.specs.Days.{IsStepFrom, IsOnDay}
use Rattle.maintenance.specs.Starts.{IsWeeklyDay}
use Rattle.maintenance.specs.Force.{IsWithinLength}
use Rattle.maintenance.proofs.Within.{tests_as, days_as}

-- the week begins on a Monday
weekday_number-monday : (day : ℤ) → weekday_number (monday_of day) ≡ 0
weekday_number-monday day =
    let e = weekday_number-add (monday_of day) day (weekday_number day) (omega (arith, signed_arith)) in
    omega (arith, weekday_number_bound day, weekday_number_bound (monday_of day))

-- the day some days after the Monday of a week a few weeks later
pub weekday_step : (monday day : ℤ) (k times every : ℕ) → weekday_number monday ≡ 0 → k < 7 → day ≡ monday +ℤ pos k +ℤ pos (times * (7 * every)) → (weekday_number day ≡ k) × (monday_of day ≡ monday +ℤ pos (times * (7 * every)))
weekday_step monday day k times every zero_day small e =
    let weeks : times * (7 * every) ≡ 7 * (times * every) = mul_left_comm times 7 every in
    let add = weekday_number-add monday day (k + times * (7 * every)) (omega (arith, signed_arith)) in
    let number : weekday_number day ≡ k = omega arith in
    (number, omega (arith, signed_arith))

pub weekly_days : (since_day first : ℤ) (every weekday : ℕ) → 1 ≤ weekday → weekday ≤ 7 → first ≡ monday_of since_day +ℤ pos (weekday - 1) → (day : ℤ) → IsStepFrom first (7 * every) day ↔ ((weekday_number day + 1 ≡ weekday) × IsStepFrom (monday_of since_day) (7 * every) (monday_of day))
weekly_days since_day first every weekday low high e day = (
  λ h.
      let step = weekday_step (monday_of since_day) day (weekday - 1) h.0 every (weekday_number-monday since_day) (omega arith) (omega (arith, signed_arith)) in
      (omega (arith, step.0), (h.0, step.1)),
  λ h. let there = h.1.1 in let number = h.0 in (h.1.0, omega (arith, signed_arith)),
)

pub weekly_test : {test : Type 0} (offset given monday first : ℤ) (every weekday step at since length now : ℕ) → given ≡ offset → monday ≡ monday_of (local_day offset (pos since)) → first ≡ monday +ℤ pos (weekday - 1) → step ≡ 7 * every → 1 ≤ weekday → weekday ≤ 7 → test ↔ IsWithinLength (λ s. (since ≤ s) × IsOnDay given (IsStepFrom first step) at s) length now → test ↔ IsWithinLength (λ s. (since ≤ s) × IsOnDay offset (IsWeeklyDay offset since every weekday) at s) length now
weekly_test offset given monday first every weekday step at since length now e f g k low high h =
    let there : first ≡ monday_of (local_day offset (pos since)) +ℤ pos (weekday - 1) = rw (← f) g in
    tests_as _ _ length now
    (days_as offset _ _ at since (weekly_days (local_day offset (pos since)) first every weekday low high there))
    (rw (e, k) at h)

-- no weekday has another number
pub no_weekday : (offset : ℤ) (every weekday at since length now : ℕ) → (weekday ≡ 0) ⊎ ((weekday ≡ 0 → ⊥) × (7 < weekday)) → IsWithinLength (λ s. (since ≤ s) × IsOnDay offset (IsWeeklyDay offset since every weekday) at s) length now → ⊥
no_weekday offset every weekday at since length now h w =
    omega (arith, h, w.1.1.1.0, weekday_number_bound w.1.1.0)
