-- The year, month and number in the month of a day.
use Rattle.std.proofs.Common.{◌≡◌, ℕ, zero, suc, ◌+◌, ◌-◌, ◌*◌, ◌^◌, ◌<◌, ◌≤◌, Bool, true, false, cond, refl, sym, ap, ◌∙◌, subst, arith, ℤ, pos, negsuc, neg_ℤ, ◌+ℤ◌, ◌-ℤ◌, ◌<ℤ◌, ◌≤ℤ◌, unsigned_abs}
use Rattle.std.specs.Prelude.{int_lt, nat_lt}
use Rattle.std.proofs.lemmas.Bool.{ltb-true, ltb-false}
use Rattle.std.proofs.lemmas.Int.{ints, by_lt_z}
use Rattle.jiff_core.specs.Calendar.{days_from_civil, day_count, IsCivilDate, IsWithin}
use Rattle.jiff_core.specs.Date.{epoch_day}
use Rattle.jiff_core.specs.declared.civil.date.Date.{Date}
use Rattle.jiff_core.proofs.SignedLemmas.{signed_arith}
use Rattle.jiff_core.proofs.CalendarLemmas.{day_count-epoch, days_from_civil-day_count, days_in_month_bounds, days_in_year_bounds, day_count-next_year, day_count-later_year, day_count-lt_year, day_count-lt_month, day_count-day, day_count-day_of_year}
use Rattle.jiff_core.proofs.DateLemmas.{civil, days_from_civil-day}
use Rattle.local_time.specs.Days.{local_day}
use Rattle.local_time.specs.Clock.{year_from, month_from, year_of, month_of, day_of}

-- days compare as their counts
less_true : (a b : ℤ) → a <ℤ b → int_lt a b ≡ true
less_true a b less = grind (arith, ints)

less_false : (a b : ℤ) → b ≤ℤ a → int_lt a b ≡ false
less_false a b at_least = grind (arith, ints)

before : (y : ℤ) (m d : ℕ) (other : ℤ) (n e : ℕ) → day_count y m d < day_count other n e → int_lt (days_from_civil y m d) (days_from_civil other n e) ≡ true
before y m d other n e less =
    less_true (days_from_civil y m d) (days_from_civil other n e)
    (omega (arith, signed_arith, days_from_civil-day_count y m d, days_from_civil-day_count other n e))

not_before : (y : ℤ) (m d : ℕ) (other : ℤ) (n e : ℕ) → day_count other n e ≤ day_count y m d → int_lt (days_from_civil y m d) (days_from_civil other n e) ≡ false
not_before y m d other n e at_least =
    less_false (days_from_civil y m d) (days_from_civil other n e)
    (omega (arith, signed_arith, days_from_civil-day_count y m d, days_from_civil-day_count other n e))

-- a year's first day isn't after its other days
year_begins : (y : ℤ) (m d : ℕ) → IsCivilDate y m d → day_count y 1 1 ≤ day_count y m d
year_begins y m d is = omega (arith, day_count-day_of_year y m d is.2.0, is.2.0)

later_year : (year y m d : ℕ) → IsCivilDate (pos y) m d → year ≤ y → day_count (pos year) 1 1 ≤ day_count (pos y) m d
later_year year y m d is later = go (nat_lt year y) refl
  where
    go : (b : Bool) → nat_lt year y ≡ b → day_count (pos year) 1 1 ≤ day_count (pos y) m d
    go true e =
        let less : year < y = ltb-true year y e in
        omega (arith, day_count-later_year (pos year) (pos y) (omega (arith, signed_arith)) (omega (arith, signed_arith)), year_begins (pos y) m d is)
    go false e =
        let same : y ≡ year = omega (arith, ltb-false year y e) in
        subst (λ n. day_count (pos n) 1 1 ≤ day_count (pos y) m d) same (year_begins (pos y) m d is)

found_year : (more year y m d : ℕ) → IsCivilDate (pos y) m d → year ≤ y → y ≤ year + more → year_from more year (days_from_civil (pos y) m d) ≡ y
unfolding year_from
found_year zero year y m d is low high = omega arith
found_year (suc more) year y m d is low high = go (nat_lt year y) refl (λ next. found_year more (suc year) y m d is next (omega arith))
  where
    go : (b : Bool) → nat_lt year y ≡ b → (suc year ≤ y → year_from more (suc year) (days_from_civil (pos y) m d) ≡ y)
        → year_from (suc more) year (days_from_civil (pos y) m d) ≡ y
    go true e rest =
        let less : year < y = ltb-true year y e in
        ap (λ b. cond b year (year_from more (suc year) (days_from_civil (pos y) m d)))
        (not_before (pos y) m d (pos (suc year)) 1 1 (later_year (suc year) y m d is (omega arith)))
        ∙ rest (omega arith)
    go false e rest =
        let same : year ≡ y = omega (arith, ltb-false year y e) in
        ap (λ b. cond b year (year_from more (suc year) (days_from_civil (pos y) m d)))
        (before (pos y) m d (pos (suc year)) 1 1 (day_count-lt_year (pos y) m d (pos (suc year)) 1 1 is (omega arith) (omega (arith, signed_arith))))
        ∙ same

-- the months of a year, in the same way
month_begins : (y : ℤ) (month m d : ℕ) → IsCivilDate y m d → 1 ≤ month → month ≤ m → day_count y month 1 ≤ day_count y m d
month_begins y month m d is first later = go (nat_lt month m) refl
  where
    go : (b : Bool) → nat_lt month m ≡ b → day_count y month 1 ≤ day_count y m d
    go true e =
        let less : month < m = ltb-true month m e in
        let days = days_in_month_bounds y month in
        omega (arith, day_count-lt_month y month 1 m d (is.0, (first, omega (arith, is.1.1)), (omega arith, omega (arith, days.1))) is.2.0 less)
    go false e =
        let same : m ≡ month = omega (arith, ltb-false month m e) in
        subst (λ n. day_count y n 1 ≤ day_count y m d) same (omega (arith, day_count-day y m d 1 is.2.0 (omega arith), is.2.0))

found_month : (more year month m d : ℕ) → IsCivilDate (pos year) m d → 1 ≤ month → month ≤ m → m ≤ month + more
    → month_from more year month (days_from_civil (pos year) m d) ≡ m
unfolding month_from
found_month zero year month m d is first low high = omega arith
found_month (suc more) year month m d is first low high =
    go (nat_lt month m) refl (λ next. found_month more year (suc month) m d is (omega arith) next (omega arith))
  where
    go : (b : Bool) → nat_lt month m ≡ b → (suc month ≤ m → month_from more year (suc month) (days_from_civil (pos year) m d) ≡ m)
        → month_from (suc more) year month (days_from_civil (pos year) m d) ≡ m
    go true e rest =
        let less : month < m = ltb-true month m e in
        ap (λ b. cond b month (month_from more year (suc month) (days_from_civil (pos year) m d)))
        (not_before (pos year) m d (pos year) (suc month) 1 (month_begins (pos year) (suc month) m d is (omega arith) (omega arith)))
        ∙ rest (omega arith)
    go false e rest =
        let same : month ≡ m = omega (arith, ltb-false month m e) in
        ap (λ b. cond b month (month_from more year (suc month) (days_from_civil (pos year) m d)))
        (before (pos year) m d (pos year) (suc month) 1 (day_count-lt_month (pos year) m d (suc month) 1 is (omega arith) (omega arith)))
        ∙ same

-- the years that moments lie in
far_years : (k : ℕ) → 4371953 + 365 * k ≤ day_count (pos (1970 + k)) 1 1
far_years zero = omega (arith, day_count-epoch)
far_years (suc k) =
    omega (arith, far_years k, day_count-next_year (pos (1970 + k)) (pos (1970 + suc k)) (omega (arith, signed_arith)) (omega (arith, signed_arith)), days_in_year_bounds (pos (1970 + k)))

year_before : day_count (pos 1969) 1 1 + 365 ≤ 4371953
year_before = omega (arith, day_count-epoch, day_count-next_year (pos 1969) (pos 1970) (omega (arith, signed_arith)) (omega (arith, signed_arith)), days_in_year_bounds (pos 1969))

not_early : (y : ℤ) (m d : ℕ) → IsCivilDate y m d → neg_ℤ (pos 1) ≤ℤ days_from_civil y m d → pos 1969 ≤ℤ y
not_early y m d is low = by_lt_z y (pos 1969)
    (λ less. absurd (omega (arith, signed_arith, year_before, days_from_civil-day_count y m d, day_count-lt_year y m d (pos 1969) 1 1 is (omega arith) less)))
    (λ at_least. at_least)

not_late : (y m d : ℕ) → IsCivilDate (pos y) m d → days_from_civil (pos y) m d ≤ℤ pos 50000 → y ≤ 2169
not_late y m d is high = go (nat_lt 2169 y) refl
  where
    go : (b : Bool) → nat_lt 2169 y ≡ b → y ≤ 2169
    go false e = ltb-false 2169 y e
    go true e =
        let less : 2169 < y = ltb-true 2169 y e in
        absurd (omega (arith, signed_arith, far_years 200, later_year 2170 y m d is (omega arith), days_from_civil-day_count (pos y) m d))

-- year, month and day of a date
pub record HasParts (y : ℤ) (m d : ℕ) (day : ℤ) : Type 0 where
  pub year : y ≡ pos (year_of day)
  pub month : m ≡ month_of day
  pub day_is : d ≡ day_of day

sub_is : (a b : ℤ) → (a -ℤ b) +ℤ b ≡ a
sub_is a b = grind (arith, ints)

distance : (a b : ℤ) (d : ℕ) → 1 ≤ d → a +ℤ pos 1 ≡ b +ℤ pos d → unsigned_abs (a -ℤ b) + 1 ≡ d
distance a b d first is =
    let gap : a -ℤ b ≡ pos (d - 1) = omega (arith, signed_arith, sub_is a b) in
    omega (arith, ap unsigned_abs gap)

first_and_distance : (y : ℤ) (m d : ℕ) → 1 ≤ d → unsigned_abs (days_from_civil y m d -ℤ days_from_civil y m 1) + 1 ≡ d
first_and_distance y m d first =
    distance (days_from_civil y m d) (days_from_civil y m 1) d first (days_from_civil-day y m d 1 first (omega arith))

parts : (y : ℤ) (m d : ℕ) → IsCivilDate y m d → neg_ℤ (pos 1) ≤ℤ days_from_civil y m d → days_from_civil y m d ≤ℤ pos 50000
    → HasParts y m d (days_from_civil y m d)
parts (negsuc n) m d is low high = absurd (omega (arith, signed_arith, not_early (negsuc n) m d is low))
parts (pos y) m d is low high =
    let day = days_from_civil (pos y) m d in
    let year : year_of day ≡ y =
    found_year 200 1969 y m d is (omega (arith, signed_arith, not_early (pos y) m d is low)) (omega (arith, not_late y m d is high)) in
    let month : month_of day ≡ m =
    ap (λ n. month_from 11 n 1 day) year ∙ found_month 11 y 1 m d is (omega arith) is.1.0 (omega (arith, is.1.1)) in
    let begins : days_from_civil (pos (year_of day)) (month_of day) 1 ≡ days_from_civil (pos y) m 1 =
    ap (λ n. days_from_civil (pos n) (month_of day) 1) year ∙ ap (λ k. days_from_civil (pos y) k 1) month in
    record {
      year = ap pos (sym year);
      month = sym month;
      day_is = sym (ap (λ begin. unsigned_abs (day -ℤ begin) + 1) begins ∙ first_and_distance (pos y) m d is.2.0);
    }

-- the days of moments at any offset
day_bounds : (second : ℕ) (offset : ℤ) → second < 2 ^ 32 → IsWithin 50400 offset
    → (neg_ℤ (pos 1) ≤ℤ local_day offset (pos second)) × (local_day offset (pos second) ≤ℤ pos 50000)
day_bounds second offset small near = (omega (arith, signed_arith), omega (arith, signed_arith))

-- the parts of the date of a moment's local day
pub date_parts : (second : ℕ) (offset : ℤ) (date : Date) → second < 2 ^ 32 → IsWithin 50400 offset → epoch_day date ≡ local_day offset (pos second)
    → HasParts date.year date.month date.day (local_day offset (pos second))
date_parts second offset date small near is =
    let limits = day_bounds second offset small near in
    subst (HasParts date.year date.month date.day) is
    (parts date.year date.month date.day (civil date)
    (subst (λ z. neg_ℤ (pos 1) ≤ℤ z) (sym is) limits.0) (subst (λ z. z ≤ℤ pos 50000) (sym is) limits.1))
