-- Where lanes stand.
use Rattle.std.proofs.Common.{◌≡◌, ◌≢◌, ◌≤◌, ◌<◌, ◌+◌, ◌-◌, ◌*◌, ◌^◌, ℕ, zero, suc, min, Bool, true, false, cond, ◌||◌, ◌==◌, ◌⊎◌, List, [], ◌∷◌, length, take, drop, replicate, slice_index, slice_index_or, slice_set, get_or, refl, sym, ◌∙◌, ap, subst, inl, inr, arith, get_or-set_same, get_or-set_other, length-set}
use Rattle.std.specs.List.{sum_by}
use Rattle.std.specs.Prelude.{nat_le}
use Rattle.std.proofs.lemmas.Bool.{cases_lt, cases_eq, cases_Bool, le-leb, lt-leb, true≢false}
use Rattle.std.proofs.lemmas.List.{get_or_past, get_or_default, get_or-replicate, get_or-take, length-take-le, length-replicate, take_all}
use Rattle.std.proofs.lemmas.List.Sums.{sum_by-set, sum_by-cons, get_or-le-sum_by}
use Rattle.alert_queue.specs.Lanes.{Laned, greatest, first_of, IsIdle, IsDue, IsTried, opened, mark_of, settled, count_marks}
use Rattle.alert_queue.specs.Queues.{Queued, no_lane, lane_at, home, home_in, IsFirst, HasOpen, IsLeastDue, IsLeastMoment, IsBusy, IsOver, none, IsFiled, AreFiled, AreRefiled, AreAtHome, WaitBeyond, count_due, count_left}

-- a lane with notes is there
pub is_there : (lanes : List Laned) (r : ℕ) → 0 < length (slice_index_or lanes r no_lane).left → r < length lanes
is_there lanes r some = elim (cases_lt r (length lanes)) [
  | inl there ↦ there
  | inr past ↦ let e : length (slice_index_or lanes r no_lane).left ≡ 0 = ap (λ (l : Laned). length l.left) (get_or_past lanes r no_lane past) in absurd (omega arith)
]

-- time goes on
pub filed_later : (before now : ℕ) (lanes : List Laned) (ready waiting : List ℕ) → before ≤ now → AreFiled before lanes ready waiting → AreFiled now lanes ready waiting
filed_later before now lanes ready waiting le filed = record {
  size = filed.size;
  room = filed.room;
  filed = λ r there. elim (filed.filed r there) [
    | inl due ↦ inl (record { idle = due.0.idle; due = omega (arith, due.0.due) }, due.1, due.2, due.3)
    | inr more ↦ inr more
  ];
}

-- one lane was filed anew, or for the first time
pub refiled_in : (now : ℕ) (lanes new : List Laned) (ready waiting new_ready new_waiting : List ℕ) (place : ℕ) → AreFiled now lanes ready waiting
    → length new ≤ length ready → place < length ready → ((r : ℕ) → r ≢ place → slice_index_or new r no_lane ≡ slice_index_or lanes r no_lane)
    → AreRefiled now (slice_index_or new place no_lane) place ready waiting new_ready new_waiting → AreFiled now new new_ready new_waiting
refiled_in now lanes new ready waiting new_ready new_waiting place filed room inside others re = record {
  size = ap length re.waiting_is ∙ length-set waiting place re.moment ∙ filed.size ∙ sym (ap length re.ready_is ∙ length-set ready place re.key);
  room = omega (arith, room, ap length re.ready_is, length-set ready place re.key);
  filed = λ r there. elim (cases_eq r place) [
    | inl here ↦
        let key : slice_index new_ready place ≡ re.key = ap (λ (l : List ℕ). get_or l place 0) re.ready_is ∙ get_or-set_same ready place re.key 0 inside in
        let moment : slice_index new_waiting place ≡ re.moment = ap (λ (l : List ℕ). get_or l place 0) re.waiting_is ∙ get_or-set_same waiting place re.moment 0 (omega (arith, filed.size)) in
        subst (λ (p : ℕ). IsFiled now (slice_index_or new p no_lane) (slice_index new_ready p) (slice_index new_waiting p)) (sym here)
        (subst (λ (k : ℕ). IsFiled now (slice_index_or new place no_lane) k (slice_index new_waiting place)) (sym key)
        (subst (λ (m : ℕ). IsFiled now (slice_index_or new place no_lane) re.key m) (sym moment) re.filed))
    | inr there_other ↦
        let key : slice_index new_ready r ≡ slice_index ready r = ap (λ (l : List ℕ). get_or l r 0) re.ready_is ∙ get_or-set_other ready place r re.key 0 there_other in
        let moment : slice_index new_waiting r ≡ slice_index waiting r = ap (λ (l : List ℕ). get_or l r 0) re.waiting_is ∙ get_or-set_other waiting place r re.moment 0 there_other in
        let old : IsFiled now (slice_index_or lanes r no_lane) (slice_index ready r) (slice_index waiting r) =
        filed.filed r (omega (arith, ap length re.ready_is, length-set ready place re.key)) in
        subst (λ (l : Laned). IsFiled now l (slice_index new_ready r) (slice_index new_waiting r)) (sym (others r there_other))
        (subst (λ (k : ℕ). IsFiled now (slice_index_or lanes r no_lane) k (slice_index new_waiting r)) (sym key)
        (subst (λ (m : ℕ). IsFiled now (slice_index_or lanes r no_lane) (slice_index ready r) m) (sym moment) old))
  ];
}

-- one lane was filed anew
pub refiled : (now : ℕ) (lanes new : List Laned) (ready waiting new_ready new_waiting : List ℕ) (place : ℕ) → AreFiled now lanes ready waiting
    → length new ≡ length lanes → place < length ready → ((r : ℕ) → r ≢ place → slice_index_or new r no_lane ≡ slice_index_or lanes r no_lane)
    → AreRefiled now (slice_index_or new place no_lane) place ready waiting new_ready new_waiting → AreFiled now new new_ready new_waiting
refiled now lanes new ready waiting new_ready new_waiting place filed size inside others re =
    refiled_in now lanes new ready waiting new_ready new_waiting place filed (omega (arith, size, filed.room)) inside others re

-- a moment that stands among those that wait is no later than the greatest
pub moment_early : (now : ℕ) (lanes : List Laned) (ready waiting : List ℕ) (place : ℕ) → AreFiled now lanes ready waiting → place < length waiting
    → slice_index waiting place < none → slice_index waiting place ≤ greatest
moment_early now lanes ready waiting place filed inside low = go (filed.filed place (omega (arith, filed.size)))
  where
    go : IsFiled now (slice_index_or lanes place no_lane) (slice_index ready place) (slice_index waiting place) → slice_index waiting place ≤ greatest
    go (inl due) = absurd (omega (arith, due.3))
    go (inr (inl waits)) = waits.3
    go (inr (inr neither)) = absurd (omega (arith, neither.2))

-- a lane whose key has come is idle, and due
pub is_due : (now : ℕ) (lane : Laned) (key moment : ℕ) → now ≤ greatest → IsFiled now lane key moment → moment ≤ now → IsDue now lane
is_due now lane key moment early (inl due) le = absurd (omega (arith, due.3))
is_due now lane key moment early (inr (inl waits)) le = record { idle = waits.0; due = omega (arith, waits.2) }
is_due now lane key moment early (inr (inr neither)) le = absurd (omega (arith, neither.2))

-- a lane that is due waits no more
pub due_filed : (now : ℕ) (lane : Laned) (key moment : ℕ) → now ≤ greatest → IsDue now lane → IsFiled now lane key moment → moment ≤ now ⊎ (moment ≡ none)
due_filed now lane key moment early due (inl is) = inr is.3
due_filed now lane key moment early due (inr (inl waits)) = inl (omega (arith, waits.2, due.due))
due_filed now lane key moment early due (inr (inr neither)) = inr neither.2

-- a lane that is read at a place that is there
pub read_is : (lanes : List Laned) (place : ℕ) (lane : Laned) → place < length lanes → lane ≡ slice_index_or lanes place lane → lane ≡ slice_index_or lanes place no_lane
read_is lanes place lane there is = is ∙ get_or_default lanes place lane no_lane there

-- a lane whose key has come is there, and due
pub waits_due : (now : ℕ) (lanes : List Laned) (ready waiting : List ℕ) (place : ℕ) → now ≤ greatest → AreFiled now lanes ready waiting → place < length ready
    → slice_index waiting place ≤ now → IsDue now (slice_index_or lanes place no_lane)
waits_due now lanes ready waiting place early filed inside le =
    is_due now (slice_index_or lanes place no_lane) (slice_index ready place) (slice_index waiting place) early (filed.filed place inside) le

-- where a lane that is due is filed anew, fewer wait that are due
pub fewer_due : (now : ℕ) (lanes : List Laned) (lane : Laned) (place : ℕ) (ready waiting new_ready new_waiting : List ℕ) → now ≤ greatest → AreFiled now lanes ready waiting
    → place < length ready → slice_index waiting place ≤ now → lane ≡ slice_index_or lanes place lane → AreRefiled now lane place ready waiting new_ready new_waiting
    → count_due now new_waiting < count_due now waiting
fewer_due now lanes lane place ready waiting new_ready new_waiting early filed inside le read re =
    let due : IsDue now (slice_index_or lanes place no_lane) = waits_due now lanes ready waiting place early filed inside le in
    let there : place < length lanes = is_there lanes place due.idle.some in
    let lane_due : IsDue now lane = subst (IsDue now) (sym (read_is lanes place lane there read)) due in
    let f : ℕ → ℕ = λ (k : ℕ). cond (nat_le k now) 1 0 in
    let moment : re.moment ≡ none = re.late lane_due in
    let one : f (slice_index waiting place) ≡ 1 = ap (λ (b : Bool). cond b 1 0) (le-leb (slice_index waiting place) now le) in
    let zero_then : f re.moment ≡ 0 = ap (λ (b : Bool). cond b 1 0) (lt-leb re.moment now (omega (arith, moment))) in
    omega (arith, ap (count_due now) re.waiting_is, sum_by-set f waiting place re.moment 0 (omega (arith, filed.size)), one, zero_then)

-- a note at the front of a lane is the first of its recipient's
pub is_first : (lanes : List Laned) (homes : List ℕ) (now place : ℕ) → AreAtHome homes lanes → 0 < length (slice_index_or lanes place no_lane).left
    → IsFirst (record { lanes = lanes; homes = homes; now = now }) (first_of (slice_index_or lanes place no_lane))
is_first lanes homes now place at_home some =
    let there = is_there lanes place some in
    let facts = at_home place 0 there some in
    record {
      numbered = facts.0;
      known = facts.1;
      there = subst (λ (r : ℕ). r < length lanes) (sym facts.2) there;
      first = ap (λ (r : ℕ). first_of (slice_index_or lanes r no_lane)) facts.2;
    }

-- the least key of those that are due is what is handed out
pub least_is_due : (lanes : List Laned) (homes ready waiting : List ℕ) (now place note : ℕ) (lane : Laned) → AreFiled now lanes ready waiting → AreAtHome homes lanes
    → WaitBeyond now waiting → place < length ready → ((j : ℕ) → j < length ready → slice_index ready place ≤ slice_index ready j) → slice_index ready place < none
    → lane ≡ slice_index_or lanes place lane → note ≡ first_of lane → IsLeastDue (record { lanes = lanes; homes = homes; now = now }) note
least_is_due lanes homes ready waiting now place note lane filed at_home rest inside least some read is = go (filed.filed place inside)
  where
    front : Laned
    front = slice_index_or lanes place no_lane

    go : IsFiled now front (slice_index ready place) (slice_index waiting place) → IsLeastDue (record { lanes = lanes; homes = homes; now = now }) note
    go (inl due) =
        let there = is_there lanes place due.0.idle.some in
        let same : note ≡ first_of front = is ∙ ap first_of (read_is lanes place lane there read) in
        let first = is_first lanes homes now place at_home due.0.idle.some in
        let home_is : home_in homes (first_of front) ≡ place = (at_home place 0 there due.0.idle.some).2 in
        subst (IsLeastDue (record { lanes = lanes; homes = homes; now = now })) (sym same) (record {
          first = first;
          due = subst (λ (r : ℕ). IsDue now (slice_index_or lanes r no_lane)) (sym home_is) due.0;
          least = λ s inner is_due_there. elim (filed.filed s (omega (arith, filed.room))) [
            | inl other ↦ omega (arith, least s (omega (arith, filed.room)), other.1, due.1)
            | inr more ↦ elim more [
              | inl waits ↦ absurd (omega (arith, rest s (omega (arith, filed.room, filed.size)), waits.2, is_due_there.due))
              | inr neither ↦ absurd (neither.0 is_due_there.idle)
            ]
          ];
        })
    go (inr (inl waits)) = absurd (omega (arith, waits.1))
    go (inr (inr neither)) = absurd (omega (arith, neither.1))

-- with no key of those that are due, no lane is
no_ready : (lane : Laned) (now key moment : ℕ) → IsFiled now lane key moment → none ≤ key → IsIdle lane → (moment ≡ lane.due) × (moment < none)
no_ready lane now key moment (inl due) high idle = absurd (omega (arith, due.2))
no_ready lane now key moment (inr (inl waits)) high idle = (waits.2, omega (arith, waits.3))
no_ready lane now key moment (inr (inr neither)) high idle = absurd (neither.0 idle)

waits_idle : (lane : Laned) (now key moment : ℕ) → IsFiled now lane key moment → none ≤ key → moment < none → IsIdle lane
waits_idle lane now key moment (inl due) high low = absurd (omega (arith, due.2))
waits_idle lane now key moment (inr (inl waits)) high low = waits.0
waits_idle lane now key moment (inr (inr neither)) high low = absurd (omega (arith, neither.2))

-- the least moment of those that wait
pub least_moment : (lanes : List Laned) (homes ready waiting : List ℕ) (now first place at : ℕ) → AreFiled now lanes ready waiting
    → WaitBeyond now waiting → ((j : ℕ) → j < length ready → slice_index ready first ≤ slice_index ready j) → none ≤ slice_index ready first
    → place < length waiting → ((j : ℕ) → j < length waiting → slice_index waiting place ≤ slice_index waiting j) → at ≡ slice_index waiting place → at < none
    → IsLeastMoment (record { lanes = lanes; homes = homes; now = now }) at
least_moment lanes homes ready waiting now first place at filed rest lowest high inside least is low =
    let all_high : (s : ℕ) → s < length ready → none ≤ slice_index ready s = λ s there. omega (arith, lowest s there) in
    let here : place < length ready = omega (arith, filed.size) in
    let idle = waits_idle (slice_index_or lanes place no_lane) now (slice_index ready place) (slice_index waiting place) (filed.filed place here) (all_high place here) (omega arith) in
    record {
      none_due = λ s inner due.
          let there : s < length ready = omega (arith, filed.room) in
          let facts = no_ready (slice_index_or lanes s no_lane) now (slice_index ready s) (slice_index waiting s) (filed.filed s there) (all_high s there) due.idle in
          absurd (omega (arith, facts.0, due.due, rest s (omega (arith, filed.size))));
      recipient = place;
      there = is_there lanes place idle.some;
      idle = idle;
      at_is =
          let facts = no_ready (slice_index_or lanes place no_lane) now (slice_index ready place) (slice_index waiting place) (filed.filed place here) (all_high place here) idle in
          sym (is ∙ facts.0);
      least = λ s inner idle_there.
          let there : s < length ready = omega (arith, filed.room) in
          let facts = no_ready (slice_index_or lanes s no_lane) now (slice_index ready s) (slice_index waiting s) (filed.filed s there) (all_high s there) idle_there in
          omega (arith, facts.0, least s (omega (arith, filed.size)));
    }

-- a sum that isn't 0 has a part that isn't
some_part : (lanes : List Laned) → 0 < count_left lanes → (r : ℕ) × (r < length lanes) × (0 < length (slice_index_or lanes r no_lane).left)
some_part [] some = absurd (omega arith)
some_part (lane ∷ lanes) some = elim (cases_lt 0 (length lane.left)) [
  | inl here ↦ (zero, omega arith, here)
  | inr none_here ↦
      let rest = some_part lanes (omega (arith, sum_by-cons (λ (l : Laned). length l.left) lane lanes)) in
      (suc rest.0, omega (arith, rest.1), rest.2)
]

-- where no lane is idle and a note is left, all that have one are tried
pub is_busy : (lanes : List Laned) (homes ready waiting : List ℕ) (now first place left : ℕ) → AreFiled now lanes ready waiting
    → ((j : ℕ) → j < length ready → slice_index ready first ≤ slice_index ready j) → none ≤ slice_index ready first
    → ((j : ℕ) → j < length waiting → slice_index waiting place ≤ slice_index waiting j) → none ≤ slice_index waiting place
    → left ≡ count_left lanes → 0 < left → IsBusy (record { lanes = lanes; homes = homes; now = now })
is_busy lanes homes ready waiting now first place left filed lowest high least late is some =
    let part = some_part lanes (omega arith) in
    record {
      recipient = part.0;
      there = part.1;
      some = part.2;
      tried = λ s inner notes. elim (cases_Bool (slice_index_or lanes s no_lane).is_open) [
        | inl tried_there ↦ tried_there
        | inr free ↦
            let there : s < length ready = omega (arith, filed.room) in
            let idle : IsIdle (slice_index_or lanes s no_lane) = record { free = free; some = notes } in
            let facts = no_ready (slice_index_or lanes s no_lane) now (slice_index ready s) (slice_index waiting s) (filed.filed s there) (omega (arith, lowest s there)) idle in
            absurd (omega (arith, facts.1, least s (omega (arith, filed.size))))
      ];
    }

-- a note is known as this recipient's
abbrev IsAtHome : List ℕ → ℕ → ℕ → Type 0
IsAtHome homes r n = (1 ≤ n) × (n ≤ length homes) × (slice_index homes (n - 1) ≡ r)

rest_home : (homes : List ℕ) (r : ℕ) (left : List ℕ) (failed limit interval : ℕ) (is_open : Bool) (due : ℕ) (ok : Bool) (now : ℕ)
    → ((j : ℕ) → j < length left → IsAtHome homes r (slice_index left j)) → (k : ℕ)
    → k < length (settled (record { left = left; failed = failed; limit = limit; interval = interval; is_open = is_open; due = due }) ok now).left
    → IsAtHome homes r (slice_index (settled (record { left = left; failed = failed; limit = limit; interval = interval; is_open = is_open; due = due }) ok now).left k)
rest_home homes r left failed limit interval is_open due ok now all = go (ok || (failed + 1 == limit)) left all
  where
    go : (b : Bool) (notes : List ℕ) → ((j : ℕ) → j < length notes → IsAtHome homes r (slice_index notes j)) → (k : ℕ)
        → k < length (cond {A = Laned} b (record { left = drop 1 notes; failed = 0; limit = limit; interval = interval; is_open = false; due = 0 }) (record { left = notes; failed = failed + 1; limit = limit; interval = interval; is_open = false; due = min (now + interval * 1000000000) greatest })).left
        → IsAtHome homes r (slice_index (cond {A = Laned} b (record { left = drop 1 notes; failed = 0; limit = limit; interval = interval; is_open = false; due = 0 }) (record { left = notes; failed = failed + 1; limit = limit; interval = interval; is_open = false; due = min (now + interval * 1000000000) greatest })).left k)
    go true [] known k less = absurd (omega arith)
    go true (n ∷ notes) known k less = known (suc k) (omega arith)
    go false notes known k less = known k less

-- a lane whose first note may have gone has notes of the same recipient
pub home_settled : (homes : List ℕ) (lanes : List Laned) (place : ℕ) (old : Laned) (ok : Bool) (now : ℕ) → place < length lanes → old ≡ slice_index_or lanes place no_lane
    → AreAtHome homes lanes → AreAtHome homes (slice_set lanes place (settled old ok now))
home_settled homes lanes place old ok now there read at_home = λ r k inner below. elim (cases_eq r place) [
  | inl here ↦
      let same : slice_index_or (slice_set lanes place (settled old ok now)) r no_lane ≡ settled old ok now =
      ap (λ (i : ℕ). get_or (slice_set lanes place (settled old ok now)) i no_lane) here ∙ get_or-set_same lanes place (settled old ok now) no_lane there in
      let below' : k < length (settled old ok now).left = subst (λ (l : Laned). k < length l.left) same below in
      let old_home : (j : ℕ) → j < length old.left → IsAtHome homes r (slice_index old.left j) = λ j less.
      subst (λ (l : Laned). IsAtHome homes r (slice_index l.left j)) (sym (read ∙ ap (λ (i : ℕ). get_or lanes i no_lane) (sym here)))
      (at_home r j (omega (arith, here)) (subst (λ (l : Laned). j < length l.left) (read ∙ ap (λ (i : ℕ). get_or lanes i no_lane) (sym here)) less)) in
      subst (λ (l : Laned). IsAtHome homes r (slice_index l.left k)) (sym same) (rest_home homes r old.left old.failed old.limit old.interval old.is_open old.due ok now old_home k below')
  | inr other ↦
      let same : slice_index_or (slice_set lanes place (settled old ok now)) r no_lane ≡ slice_index_or lanes r no_lane = get_or-set_other lanes place r (settled old ok now) no_lane other in
      subst (λ (l : Laned). IsAtHome homes r (slice_index l.left k)) (sym same)
      (at_home r k (omega (arith, length-set lanes place (settled old ok now))) (subst (λ (l : Laned). k < length l.left) same below))
]

-- ---- all lanes for the first time

-- what isn't there is in neither row
no_idle : IsIdle no_lane → ⊥
no_idle idle = omega (arith, idle.some)

pub none_filed : (lanes : List Laned) (ready waiting : List ℕ) → ready ≡ replicate (length ready) none → waiting ≡ replicate (length ready) none → AreFiled 0 (take 0 lanes) ready waiting
none_filed lanes ready waiting first second = record {
  size = ap length second ∙ length-replicate (length ready) none;
  room = omega arith;
  filed = λ r there. inr (inr (
    no_idle,
    ap (λ (l : List ℕ). get_or l r 0) first ∙ get_or-replicate (length ready) r none 0 there,
    ap (λ (l : List ℕ). get_or l r 0) second ∙ get_or-replicate (length ready) r none 0 there,
  ));
}

-- one lane more
pub one_filed : (lanes : List Laned) (ready waiting new_ready new_waiting : List ℕ) (place : ℕ) (lane : Laned) → AreFiled 0 (take place lanes) ready waiting
    → place < length lanes → length lanes ≤ length ready → lane ≡ slice_index_or lanes place lane → AreRefiled 0 lane place ready waiting new_ready new_waiting
    → AreFiled 0 (take (place + 1) lanes) new_ready new_waiting
one_filed lanes ready waiting new_ready new_waiting place lane filed inside room read re =
    let here : lane ≡ slice_index_or (take (place + 1) lanes) place no_lane = read_is lanes place lane inside read ∙ sym (get_or-take (place + 1) lanes place no_lane (omega arith)) in
    refiled_in 0 (take place lanes) (take (place + 1) lanes) ready waiting new_ready new_waiting place filed
    (omega (arith, length-take-le (place + 1) lanes (omega (arith, inside)), inside, room)) (omega (arith, inside, room)) others
    (subst (λ (l : Laned). AreRefiled 0 l place ready waiting new_ready new_waiting) here re)
  where
    others : (r : ℕ) → r ≢ place → slice_index_or (take (place + 1) lanes) r no_lane ≡ slice_index_or (take place lanes) r no_lane
    others r other = elim (cases_lt r place) [
      | inl before ↦ get_or-take (place + 1) lanes r no_lane (omega (arith, before)) ∙ sym (get_or-take place lanes r no_lane before)
      | inr not_before ↦
          let past : place + 1 ≤ r = beyond not_before other in
          get_or_past (take (place + 1) lanes) r no_lane (omega (arith, past, length-take-le (place + 1) lanes (omega (arith, inside))))
          ∙ sym (get_or_past (take place lanes) r no_lane (omega (arith, past, length-take-le place lanes (omega (arith, inside)))))
    ]
      where
        beyond : place ≤ r → r ≢ place → place + 1 ≤ r
        beyond le not = elim (cases_lt place r) [
          | inl less ↦ omega (arith, less)
          | inr not_less ↦ absurd (not (omega (arith, le, not_less)))
        ]

pub all_filed : (lanes : List Laned) (ready waiting : List ℕ) (place : ℕ) → AreFiled 0 (take place lanes) ready waiting → length lanes ≤ place → AreFiled 0 lanes ready waiting
all_filed lanes ready waiting place filed end = subst (λ (l : List Laned). AreFiled 0 l ready waiting) (take_all place lanes end) filed
