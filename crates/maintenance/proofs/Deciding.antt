-- The tests decide the propositions.
use Rattle.std.proofs.Common.{◌≡◌, ◌↔◌, ℕ, ◌+◌, ◌-◌, ◌*◌, ◌/◌, ◌%◌, ◌≤◌, ◌<◌, Bool, true, false, not, ◌&&◌, nat_le, ◌==◌, zero, suc, List, [], ◌∷◌, Option, Some, None, length, ℤ, pos, ◌+ℤ◌, ◌-ℤ◌, ◌≤ℤ◌, unsigned_abs, refl, sym, ap, ◌∙◌, arith}
use Rattle.std.specs.Prelude.{Any, Contains, IsSomeAnd, IsTrue, bytes_eq, int_lt}
use Rattle.std.specs.Bool.{Decides}
use Rattle.std.specs.List.{list_any}
use Rattle.std.proofs.Math.Nat.{mod-zero, mul_comm, mul-mod_left}
use Rattle.std.proofs.lemmas.Bool.{false≢true, and_parts, and_from}
use Rattle.std.proofs.lemmas.Bool.Decides.{same_from_decides, Decides-eqb, Decides-int_eq, Decides-not, Decides-and, Decides-or, Decides-ltb, Decides-below_or, nat_tests}
use Rattle.std.proofs.lemmas.Int.{ints}
use Rattle.std.proofs.lemmas.List.Folds.{Any-from_list_any, list_any-from_Any}
use Rattle.std.proofs.lemmas.Slice.Eq.{bytes_eq-Decides}
use Rattle.jiff_core.specs.Calendar.{days_in_month, days_from_civil, weekday_number}
use Rattle.jiff_core.proofs.SignedLemmas.{signed_arith, one_part}
use Rattle.local_time.specs.Days.{local_day, monday_of}
use Rattle.local_time.specs.Clock.{second_of_day}
use Rattle.zbx_types.specs.Ids.{at_id}
use Rattle.zbx_types.specs.declared.conf.Conf.{Conf}
use Rattle.zbx_types.specs.declared.conf.Host.{Host}
use Rattle.zbx_types.specs.declared.entries.Tag.{Tag}
use Rattle.zbx_types.specs.declared.maintenances.Maintenance.{Maintenance}
use Rattle.zbx_types.specs.declared.maintenances.Period.{Period}
use Rattle.zbx_types.specs.declared.maintenances.Period.TheVariants.{Once, Daily, Weekly, Monthly}
use Rattle.zbx_types.specs.declared.triggers.Trigger.{Trigger}
use Rattle.maintenance.specs.Found.{some_below, is_some_that}
use Rattle.maintenance.specs.Days.{IsStepFrom, IsOnDay, is_step_from, is_on_day}
use Rattle.maintenance.specs.Starts.{IsDailyDay, IsWeeklyDay, IsMonthlyDay, IsStart, is_daily_day, is_weekly_day, is_day_in, is_monthly_day, is_start, length_of}
use Rattle.maintenance.specs.Force.{IsWithinLength, IsInPeriod, IsActive, InForce, is_within_length, is_in_period, is_active, is_in_force}
use Rattle.maintenance.specs.Covering.{IsOf, IsOfHost, IsOfItem, is_among, is_of, is_of_host, is_of_item}
use Rattle.maintenance.specs.Tags.{IsForTags, is_for_tags}
use Rattle.maintenance.specs.Suppression.{Suppresses, IsSuppressed, KeepsOut, Collects, suppresses, is_suppressed, keeps_out, is_collected}

some_below_decides : (test : ℕ → Bool) (P : ℕ → Type 0) → ((k : ℕ) → Decides (test k) (P k)) → (n : ℕ) → Decides (some_below test n) ((k : ℕ) × (k < n) × P k)
unfolding some_below
some_below_decides test P each n = Decides-below_or test P (some_below test) each refl (λ _. refl) n

any_decides : {X : Type 0} (test : X → Bool) (P : X → Type 0) → ((x : X) → Decides (test x) (P x)) → (xs : List X) → Decides (list_any test xs) (Any P xs)
any_decides test P each xs = (
  λ e. let w = Any-from_list_any test xs e in (w.0, w.1, w.2, w.3, (each w.1).0 w.4),
  λ h. list_any-from_Any test xs (h.0, h.1, h.2, h.3, (each h.1).1 h.4),
)

some_decides : {X : Type 0} (test : X → Bool) (P : X → Type 0) → ((x : X) → Decides (test x) (P x)) → (o : Option X) → Decides (is_some_that test o) (IsSomeAnd o P)
some_decides test P each None = (λ e. absurd (false≢true e), λ h. absurd h)
some_decides test P each (Some x) = each x

three_decide : {P Q R : Type 0} (x y z : Bool) → Decides x P → Decides y Q → Decides z R → Decides (x && y && z) (P × Q × R)
three_decide {P} {Q} {R} x y z f g h = (
  λ e.
      let w = and_parts (x && y) z e in
      let v = and_parts x y w.0 in
      (f.0 v.0, g.0 v.1, h.0 w.1),
  λ p. and_from (x && y) z (and_from x y (f.1 p.0) (g.1 p.1)) (h.1 p.2),
)

leb_decides : (a b : ℕ) → Decides (nat_le a b) (a ≤ b)
leb_decides a b = (λ e. grind (arith, nat_tests), λ h. grind (arith, nat_tests))

-- Days and seconds.

quotient_exact : (n step : ℕ) → n % step ≡ 0 → n ≡ n / step * step
quotient_exact n zero e = let none = mod-zero n in omega arith
quotient_exact n (suc k) e = let back = mul_comm (n / suc k) (suc k) in omega arith

not_earlier : (a b : ℤ) → b ≤ℤ a → int_lt a b ≡ false
not_earlier a b h = grind (arith, ints)

step_decides : (first : ℤ) (step : ℕ) (day : ℤ) → Decides (is_step_from first step day) (IsStepFrom first step day)
step_decides first step day = (
  λ e.
      let parts = and_parts (not (int_lt day first)) (unsigned_abs (day -ℤ first) % step == 0) e in
      let exact = quotient_exact (unsigned_abs (day -ℤ first)) step ((Decides-eqb _ _).0 parts.1) in
      let later : int_lt day first ≡ false = grind arith in
      (unsigned_abs (day -ℤ first) / step, omega (arith, signed_arith, one_part (day -ℤ first))),
  λ h.
      let far : unsigned_abs (day -ℤ first) ≡ h.0 * step = omega (arith, signed_arith, h.1, one_part (day -ℤ first)) in
      let late : first ≤ℤ day = omega (arith, signed_arith, h.1) in
      let later : int_lt day first ≡ false = not_earlier day first late in
      and_from _ _ (ap not later) ((Decides-eqb _ _).1 (ap (λ n. n % step) far ∙ mul-mod_left h.0 step)),
)

on_day_decides : (offset : ℤ) (chosen : ℤ → Bool) (Chosen : ℤ → Type 0) → ((day : ℤ) → Decides (chosen day) (Chosen day)) → (at second : ℕ) → Decides (is_on_day offset chosen at second) (IsOnDay offset Chosen at second)
on_day_decides offset chosen Chosen each at second = (
  λ e.
      let day = local_day offset (pos second -ℤ pos at) in
      let parts = and_parts (second_of_day offset (pos second -ℤ pos at) == 0) (chosen day) e in
      let midnight : second_of_day offset (pos second -ℤ pos at) ≡ 0 = (Decides-eqb _ _).0 parts.0 in
      (day, (each day).0 parts.1, omega (arith, signed_arith)),
  λ h.
      let is = h.2 in
      let same : h.0 ≡ local_day offset (pos second -ℤ pos at) = omega (arith, signed_arith) in
      let midnight : second_of_day offset (pos second -ℤ pos at) ≡ 0 = omega (arith, signed_arith) in
      let P : ℤ → Type 0 = λ d. chosen d ≡ true in
      and_from _ _ ((Decides-eqb _ _).1 midnight) (rw (← same) ((each h.0).1 h.1)),
)

within_decides : (begins : ℕ → Bool) (Begins : ℕ → Type 0) → ((s : ℕ) → Decides (begins s) (Begins s)) → (length second : ℕ) → Decides (is_within_length begins length second) (IsWithinLength Begins length second)
within_decides begins Begins each length second =
    let d = some_below_decides (λ back. nat_le back second && begins (second - back)) (λ back. (back ≤ second) × Begins (second - back))
    (λ back. Decides-and _ _ (leb_decides back second) (each (second - back))) length in (
      λ e. let w = d.0 e in let below = w.1 in let old = w.2.0 in (second - w.0, w.2.1, omega arith, omega arith),
      λ h.
          let old = h.2 in
          let short = h.3 in
          let same : second - (second - h.0) ≡ h.0 = omega arith in
          d.1 (second - h.0, omega arith, (omega arith, rw same h.1)),
    )

-- The sorts of days.

weekly_decides : (offset : ℤ) (since every weekday : ℕ) (day : ℤ) → Decides (is_weekly_day offset since every weekday day) (IsWeeklyDay offset since every weekday day)
weekly_decides offset since every weekday day =
    Decides-and _ _ (Decides-eqb (weekday_number day + 1) weekday) (step_decides (monday_of (local_day offset (pos since))) (7 * every) (monday_of day))

abbrev IsDayOf : ℤ → ℕ → ℕ → ℤ → Type 0
IsDayOf year month number day =
    (1 ≤ month) × (month ≤ 12) × (1 ≤ number) × (number ≤ days_in_month year month) × (days_from_civil year month number ≡ day)

day_in_decides : (year : ℤ) (month number : ℕ) (day : ℤ) → Decides (is_day_in year month number day) (IsDayOf year month number day)
day_in_decides year month number day = (
  λ e.
      let a = and_parts _ _ e in
      let b = and_parts _ _ a.0 in
      let c = and_parts _ _ b.0 in
      let d = and_parts _ _ c.0 in
      ((leb_decides _ _).0 d.0, (leb_decides _ _).0 d.1, (leb_decides _ _).0 c.1, (leb_decides _ _).0 b.1, (Decides-int_eq _ _).0 a.1),
  λ h.
      and_from _ _
      (and_from _ _
      (and_from _ _
      (and_from _ _ ((leb_decides _ _).1 h.0) ((leb_decides _ _).1 h.1)) ((leb_decides _ _).1 h.2)) ((leb_decides _ _).1 h.3)) ((Decides-int_eq _ _).1 h.4),
)

some_date : (number month : ℕ) (day : ℤ) → (n : ℕ) → n ≡ 19999 → ((place : ℕ) × (place < n) × IsDayOf (pos place -ℤ pos 9999) month number day) → IsMonthlyDay number month day
some_date number month day n size h =
    let is = h.2 in
    let below = h.1 in (
      record {
        year = pos h.0 -ℤ pos 9999;
        month = month;
        day = number;
        year_in = (omega (arith, signed_arith), omega (arith, signed_arith));
        month_in = (is.0, is.1);
        day_in = (is.2, is.3);
      },
      refl,
      refl,
      is.4,
    )

some_place : (number month : ℕ) (day : ℤ) → (n : ℕ) → n ≡ 19999 → IsMonthlyDay number month day → (place : ℕ) × (place < n) × IsDayOf (pos place -ℤ pos 9999) month number day
some_place number month day n size h =
    let date = h.0 in
    let low = date.year_in.0 in
    let high = date.year_in.1 in
    let there : pos (unsigned_abs (date.year +ℤ pos 9999)) -ℤ pos 9999 ≡ date.year = omega (arith, signed_arith, one_part (date.year +ℤ pos 9999)) in
    let below : unsigned_abs (date.year +ℤ pos 9999) < n = omega (arith, signed_arith, one_part (date.year +ℤ pos 9999)) in
    let all : IsDayOf date.year month number day = rw (← h.1, ← h.2) (date.month_in.0, date.month_in.1, date.day_in.0, date.day_in.1, h.3) in
    (unsigned_abs (date.year +ℤ pos 9999), below, rw there all)

years_decide : (number month : ℕ) (day : ℤ) (n : ℕ) → n ≡ 19999 → Decides (some_below (λ place. is_day_in (pos place -ℤ pos 9999) month number day) n) (IsMonthlyDay number month day)
years_decide number month day n size =
    let d = some_below_decides (λ place. is_day_in (pos place -ℤ pos 9999) month number day) (λ place. IsDayOf (pos place -ℤ pos 9999) month number day)
    (λ place. day_in_decides (pos place -ℤ pos 9999) month number day) n in
    (λ e. some_date number month day n size (d.0 e), λ h. d.1 (some_place number month day n size h))

monthly_decides : (number month : ℕ) (day : ℤ) → Decides (is_monthly_day number month day) (IsMonthlyDay number month day)
monthly_decides number month day = years_decide number month day 19999 refl

-- Starts, periods and maintenances.

start_decides : (offset : ℤ) (since : ℕ) (period : Period) (second : ℕ) → Decides (is_start offset since period second) (IsStart offset since period second)
start_decides offset since (Once start length) second = Decides-eqb second start
start_decides offset since (Daily every at length) second =
    Decides-and _ _ (leb_decides since second)
    (on_day_decides offset (is_daily_day offset since every) (IsDailyDay offset since every) (step_decides (local_day offset (pos since)) every) at second)
start_decides offset since (Weekly every days at length) second =
    Decides-and _ _ (leb_decides since second)
    (any_decides _ (λ weekday. IsOnDay offset (IsWeeklyDay offset since every weekday) at second)
    (λ weekday. on_day_decides offset (is_weekly_day offset since every weekday) (IsWeeklyDay offset since every weekday) (weekly_decides offset since every weekday) at second) days)
start_decides offset since (Monthly months number at length) second =
    Decides-and _ _ (leb_decides since second)
    (any_decides _ (λ month. IsOnDay offset (IsMonthlyDay number month) at second)
    (λ month. on_day_decides offset (is_monthly_day number month) (IsMonthlyDay number month) (monthly_decides number month) at second) months)

period_decides : (offset : ℤ) (since second : ℕ) (period : Period) → Decides (is_in_period offset since second period) (IsInPeriod offset since second period)
period_decides offset since second period =
    within_decides (is_start offset since period) (IsStart offset since period) (start_decides offset since period) (length_of period) second

active_decides : (offset : ℤ) (second : ℕ) (m : Maintenance) → Decides (is_active offset second m) (IsActive offset second m)
active_decides offset second m =
    three_decide _ _ _ (leb_decides m.since second) (Decides-ltb second m.till)
    (any_decides (is_in_period offset m.since second) (IsInPeriod offset m.since second) (period_decides offset m.since second) m.periods)

pub in_force_decides : (conf : Conf) (place now : ℕ) → Decides (is_in_force conf place now) (InForce conf place now)
unfolding is_in_force
in_force_decides conf place now =
    some_decides (is_active conf.utc_offset (now / 1000000000)) (IsActive conf.utc_offset (now / 1000000000)) (active_decides conf.utc_offset (now / 1000000000)) (at_id conf.maintenances place)

-- Hosts and tags.

among_decides : (names : List (List ℕ)) (name : List ℕ) → Decides (is_among names name) (Contains names name)
among_decides names name =
    let d = any_decides (λ other. bytes_eq other name) (λ other. other ≡ name) (λ other. bytes_eq-Decides other name) names in (
      λ e. let w = d.0 e in let same : w.1 ≡ name = w.4 in (w.0, w.2, rw same at w.3),
      λ h. d.1 (h.0, name, h.1, h.2, refl),
    )

of_decides : (m : Maintenance) (host : Host) → Decides (is_of m host) (IsOf m host)
of_decides m host =
    Decides-or _ _ (among_decides m.hosts host.name) (any_decides (is_among m.groups) (Contains m.groups) (among_decides m.groups) host.groups)

host_decides : (conf : Conf) (m : Maintenance) (host : ℕ) → Decides (is_of_host conf m host) (IsOfHost conf m host)
host_decides conf m host = some_decides (is_of m) (IsOf m) (of_decides m) (at_id conf.hosts host)

item_decides : (conf : Conf) (m : Maintenance) (item : ℕ) → Decides (is_of_item conf m item) (IsOfItem conf m item)
item_decides conf m item =
    some_decides _ (λ found. IsOfHost conf m found.host) (λ found. host_decides conf m found.host) (at_id conf.items item)

empty_decides : {X : Type 0} (xs : List X) → Decides (length xs == 0) (xs ≡ [])
empty_decides [] = (λ _. refl, λ _. refl)
empty_decides (x ∷ xs) = (λ e. absurd (grind (arith, nat_tests)), λ h. cc)

tags_decide : (m : Maintenance) (tags : List Tag) → Decides (is_for_tags m tags) (IsForTags m tags)
tags_decide m tags = Decides-or _ _ (empty_decides m.tags) (λ e. e, λ h. h)

-- What maintenances do.

suppresses_decides : (conf : Conf) (trigger : Trigger) (tags : List Tag) (second : ℕ) (m : Maintenance) → Decides (suppresses conf trigger tags second m) (Suppresses conf trigger tags second m)
suppresses_decides conf trigger tags second m =
    three_decide _ _ _ (active_decides conf.utc_offset second m)
    (any_decides (is_of_item conf m) (IsOfItem conf m) (item_decides conf m) trigger.call_items) (tags_decide m tags)

pub suppressed_decides : (conf : Conf) (trigger : ℕ) (tags : List Tag) (now : ℕ) → Decides (is_suppressed conf trigger tags now) (IsSuppressed conf trigger tags now)
unfolding is_suppressed
suppressed_decides conf trigger tags now =
    some_decides _ (λ found. Any (Suppresses conf found tags (now / 1000000000)) conf.maintenances)
    (λ found. any_decides (suppresses conf found tags (now / 1000000000)) (Suppresses conf found tags (now / 1000000000)) (suppresses_decides conf found tags (now / 1000000000)) conf.maintenances)
    (at_id conf.triggers trigger)

off_decides : (b : Bool) → Decides (not b) (b ≡ false)
off_decides true = (λ e. absurd (false≢true e), λ h. absurd (false≢true (sym h)))
off_decides false = (λ _. refl, λ _. refl)

keeps_out_decides : (conf : Conf) (host second : ℕ) (m : Maintenance) → Decides (keeps_out conf host second m) (KeepsOut conf host second m)
keeps_out_decides conf host second m =
    three_decide _ _ _ (off_decides m.collect) (active_decides conf.utc_offset second m) (host_decides conf m host)

pub collected_decides : (conf : Conf) (host now : ℕ) → Decides (is_collected conf host now) (Collects conf host now)
unfolding is_collected
collected_decides conf host now =
    Decides-not _ (any_decides (keeps_out conf host (now / 1000000000)) (KeepsOut conf host (now / 1000000000)) (keeps_out_decides conf host (now / 1000000000)) conf.maintenances)

-- A test that answers the proposition is the one of the definitions.

pub is_in_force_as : (conf : Conf) (place now : ℕ) (r : Bool) → IsTrue r ↔ InForce conf place now → r ≡ is_in_force conf place now
is_in_force_as conf place now r h = same_from_decides r (is_in_force conf place now) h (in_force_decides conf place now)

pub is_suppressed_as : (conf : Conf) (trigger : ℕ) (tags : List Tag) (now : ℕ) (r : Bool) → IsTrue r ↔ IsSuppressed conf trigger tags now → r ≡ is_suppressed conf trigger tags now
is_suppressed_as conf trigger tags now r h =
    same_from_decides r (is_suppressed conf trigger tags now) h (suppressed_decides conf trigger tags now)

pub is_collected_as : (conf : Conf) (host now : ℕ) (r : Bool) → IsTrue r ↔ Collects conf host now → r ≡ is_collected conf host now
is_collected_as conf host now r h =
    same_from_decides r (is_collected conf host now) h (collected_decides conf host now)
