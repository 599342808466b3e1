-- Days that lie a step apart, as seconds that do.
use Rattle.std.proofs.Common.{◌≡◌, ◌↔◌, ℕ, ◌*◌, ◌≤◌, ◌∙◌, ℤ, pos, ◌+ℤ◌, arith}
use Rattle.std.proofs.Math.Nat.{mul_left_comm}
use Rattle.jiff_core.proofs.SignedLemmas.{signed_arith}
use Rattle.local_time.specs.Days.{local_day, second_of}
use Rattle.maintenance.specs.Days.{IsStepFrom, IsOnDay}
use Rattle.maintenance.specs.Starts.{IsDailyDay}
use Rattle.maintenance.specs.Force.{IsWithinLength}
use Rattle.maintenance.specs.Series.{IsInSeries}

-- the same time of day some steps later
second_of_step : (offset first : ℤ) (at times step : ℕ) → second_of offset (first +ℤ pos (times * step)) at ≡ second_of offset first at +ℤ pos (times * (86400 * step))
second_of_step offset first at times step =
    let e : times * (86400 * step) ≡ 86400 * (times * step) = mul_left_comm times 86400 step in
    omega (arith, signed_arith)

pub series_days : (offset first begin : ℤ) (step at since jump : ℕ) → begin ≡ second_of offset first at → jump ≡ 86400 * step → (s : ℕ) → IsInSeries begin jump since s ↔ ((since ≤ s) × IsOnDay offset (IsStepFrom first step) at s)
series_days offset first begin step at since jump e f s = (
  λ h.
      let later = second_of_step offset first at h.1 step in
      let there : pos s ≡ second_of offset first at +ℤ pos (h.1 * (86400 * step)) = rw (← e, ← f) h.2 in
      (h.0, (first +ℤ pos (h.1 * step), (h.1, omega (arith, signed_arith)), omega (arith, signed_arith))),
  λ h.
      let times = h.1.1.0 in
      let later = second_of_step offset first at times step in
      let there : pos s ≡ second_of offset (first +ℤ pos (times * step)) at = rw (← h.1.1.1) h.1.2 in
      (h.0, times, rw (e, f) (there ∙ later)),
)

pub daily_test : {test : Type 0} (offset given first : ℤ) (every step at since length now : ℕ) → given ≡ offset → first ≡ local_day offset (pos since) → step ≡ every → test ↔ IsWithinLength (λ s. (since ≤ s) × IsOnDay given (IsStepFrom first step) at s) length now → test ↔ IsWithinLength (λ s. (since ≤ s) × IsOnDay offset (IsDailyDay offset since every) at s) length now
daily_test offset given first every step at since length now e f g h = rw (e, f, g) at h

pub local_day_is : (offset given second known day : ℤ) → given ≡ offset → known ≡ second → day ≡ local_day given known → day ≡ local_day offset second
local_day_is offset given second known day e f h = rw (e, f) at h
