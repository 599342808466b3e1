-- Days of months, by their years.
use Rattle.std.proofs.Common.{◌≡◌, ◌↔◌, ℕ, ◌+◌, ◌/◌, ◌≤◌, ◌<◌, ℤ, pos, ◌+ℤ◌, ◌-ℤ◌, ◌≤ℤ◌, ◌<ℤ◌, inl, refl, sym, ◌∙◌, arith}
use Rattle.std.proofs.lemmas.Int.{by_lt_z}
use Rattle.jiff_core.specs.Date.{epoch_day}
use Rattle.jiff_core.specs.declared.civil.date.Date.{Date}
use Rattle.jiff_core.proofs.SignedLemmas.{signed_arith}
use Rattle.jiff_core.proofs.DateLemmas.{epoch_day_same, epoch_day-lt}
use Rattle.local_time.specs.Days.{local_day, second_of}
use Rattle.maintenance.specs.Days.{IsStepFrom, IsOnDay}
use Rattle.local_time.specs.Dates.{IsDateIn, IsDayIn}
use Rattle.maintenance.specs.Starts.{IsMonthlyDay}
use Rattle.maintenance.specs.Force.{IsWithinLength}
use Rattle.maintenance.proofs.Within.{tests_as, days_as, within_as}

-- there is one date with a year, month and number
one_date : (year : ℤ) (month number : ℕ) (date : Date) → IsDateIn year month number date → (day : ℤ) → IsStepFrom (epoch_day date) 0 day ↔ IsDayIn year month number day
one_date year month number date here day = (
  λ h. (date, here, omega (arith, signed_arith, h.1)),
  λ h.
      let same = epoch_day_same h.0 date (h.1.0 ∙ sym here.0) (h.1.1 ∙ sym here.1) (h.1.2 ∙ sym here.2) in
      (0, omega (arith, signed_arith, h.2)),
)

pub year_test : {test : Type 0} (offset given first year : ℤ) (month number at since length now : ℕ) (date : Date) → given ≡ offset → first ≡ epoch_day date → IsDateIn year month number date → test ↔ IsWithinLength (λ s. (since ≤ s) × IsOnDay given (IsStepFrom first 0) at s) length now → test ↔ IsWithinLength (λ s. (since ≤ s) × IsOnDay offset (IsDayIn year month number) at s) length now
year_test offset given first year month number at since length now date e f here h =
    tests_as _ _ length now (days_as offset _ _ at since (one_date year month number date here)) (rw (e, f) at h)

pub no_date : (offset year : ℤ) (month number at since length now : ℕ) → ((date : Date) → IsDateIn year month number date → ⊥) → IsWithinLength (λ s. (since ≤ s) × IsOnDay offset (IsDayIn year month number) at s) length now → ⊥
no_date offset year month number at since length now none w = none w.1.1.1.0 w.1.1.1.1

-- the day of a start lies between that of the second and that of the second less the length
day_between : (offset day : ℤ) (at s length now : ℕ) → pos s ≡ second_of offset day at → s ≤ now → now < s + length → (day ≤ℤ local_day offset (pos now -ℤ pos at)) × ((local_day offset (pos now -ℤ pos at) -ℤ pos (length / 86400)) ≤ℤ day)
day_between offset day at s length now e old short =
    (omega (arith, signed_arith), omega (arith, signed_arith))

-- a date that isn't before another isn't of an earlier year
year_order : (a b : Date) → epoch_day a ≤ℤ epoch_day b → a.year ≤ℤ b.year
year_order a b h = by_lt_z b.year a.year (λ lt. absurd (let back = epoch_day-lt b a (inl lt) in omega (arith, signed_arith))) (λ le. le)

pub some_year : (offset : ℤ) (month number at since length now : ℕ) (low high : Date) → epoch_day low ≡ local_day offset (pos now -ℤ pos at) -ℤ pos (length / 86400) → epoch_day high ≡ local_day offset (pos now -ℤ pos at) → IsWithinLength (λ s. (since ≤ s) × IsOnDay offset (IsMonthlyDay number month) at s) length now → (year : ℤ) × (low.year ≤ℤ year) × (year ≤ℤ high.year) × IsWithinLength (λ s. (since ≤ s) × IsOnDay offset (IsDayIn year month number) at s) length now
some_year offset month number at since length now low high e f w =
    let s = w.0 in
    let day = w.1.1.0 in
    let date = w.1.1.1.0 in
    let is = w.1.1.1 in
    let between = day_between offset day at s length now w.1.1.2 w.2 w.3 in
    let after : epoch_day low ≤ℤ epoch_day date = rw (e, is.3) between.1 in
    let before : epoch_day date ≤ℤ epoch_day high = rw (f, is.3) between.0 in
    (date.year, year_order low date after, year_order date high before, (s, (w.1.0, (day, (date, (refl, is.1, is.2), is.3), w.1.1.2)), w.2, w.3))

pub any_year : (offset year : ℤ) (month number at since length now : ℕ) → IsWithinLength (λ s. (since ≤ s) × IsOnDay offset (IsDayIn year month number) at s) length now → IsWithinLength (λ s. (since ≤ s) × IsOnDay offset (IsMonthlyDay number month) at s) length now
any_year offset year month number at since length now =
    within_as _ _ length now (λ s h. let is = h.1.1 in (h.0, (h.1.0, (is.0, is.1.1, is.1.2, is.2), h.1.2)))

-- what holds in no year before one, and not in that one, holds in no year before the next one
pub none_before_next : (Holds : ℤ → Type 0) (first year next : ℤ) → ((y : ℤ) → first ≤ℤ y → y <ℤ year → Holds y → ⊥) → (Holds year → ⊥) → next ≡ year +ℤ pos 1 → (y : ℤ) → first ≤ℤ y → y <ℤ next → Holds y → ⊥
none_before_next Holds first year next before here e y low high holds =
    by_lt_z y year (λ lt. before y low lt holds)
    (λ ge. let same : y ≡ year = omega (arith, signed_arith) in here (rw same at holds))

pub month_test : {test : Type 0} (offset given first end : ℤ) (month number at since length now : ℕ) (low high : Date) → given ≡ offset → first ≡ low.year → end ≡ high.year +ℤ pos 1 → epoch_day low ≡ local_day offset (pos now -ℤ pos at) -ℤ pos (length / 86400) → epoch_day high ≡ local_day offset (pos now -ℤ pos at) → test ↔ ((year : ℤ) × (first ≤ℤ year) × (year <ℤ end) × IsWithinLength (λ s. (since ≤ s) × IsOnDay given (IsDayIn year month number) at s) length now) → test ↔ IsWithinLength (λ s. (since ≤ s) × IsOnDay offset (IsMonthlyDay number month) at s) length now
month_test offset given first end month number at since length now low high e f g from till h =
    let there = rw e at h in (
      λ t. let y = there.0 t in any_year offset y.0 month number at since length now y.3,
      λ w.
          let y = some_year offset month number at since length now low high from till w in
          let after : first ≤ℤ y.0 = rw f y.1 in
          let upto = y.2 in
          let before : y.0 <ℤ end = rw g (omega (arith, signed_arith)) in
          there.1 (y.0, after, before, y.3),
    )
