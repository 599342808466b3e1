-- What holds whatever a queue is asked.
use Rattle.std.proofs.Common.{◌≡◌, ◌≢◌, ◌≤◌, ◌<◌, ◌+◌, ◌-◌, ◌*◌, ℕ, zero, suc, min, ◌==◌, Bool, true, false, cond, ◌||◌, ◌⊎◌, List, [], ◌∷◌, ◌++◌, length, slice_index, slice_index_or, Option, Some, None, refl, sym, ◌∙◌, ap, subst, inl, inr, arith, add-one, append_assoc, eqb-true, eq-eqb, get_or-set_same, get_or-set_other, length-set}
use Rattle.std.specs.List.{filter}
use Rattle.std.proofs.lemmas.List.Elements.{filter-append}
use Rattle.std.proofs.lemmas.Bool.{cases_lt, cases_eq, cases_Bool, ne_eqb, lt-ltb, le-ltb}
use Rattle.alert_queue.specs.Lanes.{Laned, greatest, first_of, IsIdle, IsDue, IsTried, opened, mark_of, settled, succeeds, verdict, answer}
use Rattle.alert_queue.specs.Queues.{Queued, no_lane, lane_at, home, home_in, IsFirst, HasOpen, IsLeastDue, HandsOut}
use Rattle.alert_queue.specs.Events.{Event, Take, End, moved, with_lane, handed, ended, happens, MayHappen, marked, made_by}
use Rattle.alert_queue.specs.Law.{IsTold, AreAllowed, run, made, marks_at, tries, count_tries, begins, ends, count_begun, count_ended, open_tries, AreRising, IsFresh, AreFresh, KeepsAnswers, KeepsLimits, KeepsOneOpen}
use Rattle.alert_queue.specs.declared.types.Taken.{Taken}
use Rattle.alert_queue.specs.declared.types.Taken.TheVariants.{Try, Later, Busy, Nothing}
use Rattle.alert_queue.specs.declared.types.Mark.{Mark}
use Rattle.alert_queue.specs.declared.types.Mark.TheVariants.{Done, Failed}
use Rattle.alert_queue.specs.declared.types.NoteMark.{NoteMark}

-- a success among the first outcomes
pub succeeds_at : (outcome : ℕ → Bool) (k limit : ℕ) → outcome k ≡ true → k < limit → succeeds outcome limit ≡ true
succeeds_at outcome k zero good less = absurd (omega arith)
succeeds_at outcome k (suc limit) good less = elim (cases_eq k limit) [
  | inl is ↦ let here : outcome limit ≡ true = ap outcome (sym is) ∙ good in rw here refl
  | inr not ↦ let there : succeeds outcome limit ≡ true = succeeds_at outcome k limit good (omega arith) in rw there (either (outcome limit))
]
  where
    either : (b : Bool) → (b || true) ≡ true
    either true = refl
    either false = refl

-- what is known of a lane between two calls: its tries so far failed, by the table, and there were fewer than its limit
pub record Goes (table : ℕ → ℕ → Bool) (lane : Laned) : Type 0 where
  pub fewer : lane.failed < lane.limit
  pub failures : 0 < length lane.left → succeeds (table (first_of lane)) lane.failed ≡ false
  pub rising : AreRising lane.left

rising_rest : (n : ℕ) (rest : List ℕ) → AreRising (n ∷ rest) → AreRising rest
rising_rest n rest rising i j less high = rising (suc i) (suc j) (omega arith) (omega arith)

-- the end of a try makes the mark that the table says, or none, and what is left goes on
pub record Settles (table : ℕ → ℕ → Bool) (lane : Laned) (ok : Bool) (now : ℕ) : Type 0 where
  pub answers : marked (first_of lane) (mark_of lane ok) ++ answer table (settled lane ok now) ≡ answer table lane
  pub goes : Goes table (settled lane ok now)

settles_parts : (table : ℕ → ℕ → Bool) (left : List ℕ) (failed limit interval : ℕ) (is_open : Bool) (due : ℕ) (ok : Bool) (now : ℕ)
    → Goes table (record { left = left; failed = failed; limit = limit; interval = interval; is_open = is_open; due = due }) → 0 < length left
    → ok ≡ table (slice_index left 0) failed
    → Settles table (record { left = left; failed = failed; limit = limit; interval = interval; is_open = is_open; due = due }) ok now
settles_parts table [] failed limit interval is_open due ok now goes some told = absurd (omega arith)
settles_parts table (n ∷ rest) failed limit interval is_open due ok now goes some told = go ok told
  where
    rest_goes : Goes table (record { left = rest; failed = 0; limit = limit; interval = interval; is_open = false; due = 0 })
    rest_goes = record { fewer = omega (arith, goes.fewer); failures = λ _. refl; rising = rising_rest n rest goes.rising }

    go : (b : Bool) → b ≡ table n failed → Settles table (record { left = n ∷ rest; failed = failed; limit = limit; interval = interval; is_open = is_open; due = due }) b now
    go true good =
        let done : verdict (table n) limit ≡ Done = ap (λ (b : Bool). cond b Done Failed) (succeeds_at (table n) failed limit (sym good) goes.fewer) in
        record {
          answers = ap (λ (m : Mark). record { note = n; mark = m } ∷ answer table (record { left = rest; failed = 0; limit = limit; interval = interval; is_open = false; due = 0 })) (sym done);
          goes = rest_goes;
        }
    go false ill = elim (cases_eq (failed + 1) limit) [
      | inl last ↦
          let test : (failed + 1 == limit) ≡ true = eq-eqb (failed + 1) limit last in
          let none : succeeds (table n) (suc failed) ≡ false = rw (sym ill) (goes.failures (omega arith)) in
          let all : succeeds (table n) limit ≡ false = subst (λ (k : ℕ). succeeds (table n) k ≡ false) (sym (add-one failed) ∙ last) none in
          let bad : verdict (table n) limit ≡ Failed = ap (λ (b : Bool). cond b Done Failed) all in
          record {
            answers = rw test (ap (λ (m : Mark). record { note = n; mark = m } ∷ answer table (record { left = rest; failed = 0; limit = limit; interval = interval; is_open = false; due = 0 })) (sym bad));
            goes = rw test rest_goes;
          }
      | inr more ↦
          let test : (failed + 1 == limit) ≡ false = ne_eqb (failed + 1) limit more in
          let none : succeeds (table n) (suc failed) ≡ false = rw (sym ill) (goes.failures (omega arith)) in
          let again : Goes table (record { left = n ∷ rest; failed = failed + 1; limit = limit; interval = interval; is_open = false; due = min (now + interval * 1000000000) greatest }) = record {
            fewer = omega (arith, goes.fewer);
            failures = λ some_left. subst (λ (k : ℕ). succeeds (table n) k ≡ false) (sym (add-one failed)) none;
            rising = goes.rising;
          } in
          record { answers = rw test refl; goes = rw test again }
    ]

pub settles : (table : ℕ → ℕ → Bool) (lane : Laned) (ok : Bool) (now : ℕ) → Goes table lane → 0 < length lane.left → ok ≡ table (first_of lane) lane.failed → Settles table lane ok now
settles table lane ok now goes some told = settles_parts table lane.left lane.failed lane.limit lane.interval lane.is_open lane.due ok now goes some told

-- what a call does to a recipient's lane: nothing
pub record Stays (homes : List ℕ) (r : ℕ) (e : Event) (marks : List NoteMark) (lane new : Laned) : Type 0 where
  pub same : new ≡ lane
  pub none : marks_at homes r marks ≡ []
  pub begun : begins homes r e ≡ 0
  pub closed : ends homes r e ≡ 0
  pub untried : (n : ℕ) → home_in homes n ≡ r → tries n e ≡ 0

-- a try of its first note begins
pub record Opens (homes : List ℕ) (r : ℕ) (e : Event) (marks : List NoteMark) (lane new : Laned) : Type 0 where
  pub is : new ≡ opened lane
  pub idle : IsIdle lane
  pub none : marks_at homes r marks ≡ []
  pub begun : begins homes r e ≡ 1
  pub closed : ends homes r e ≡ 0
  pub tried : (n : ℕ) → tries n e ≡ cond (first_of lane == n) 1 0

-- a try of its first note ends, as the table says
pub record Closes (table : ℕ → ℕ → Bool) (homes : List ℕ) (r : ℕ) (e : Event) (marks : List NoteMark) (lane new : Laned) : Type 0 where
  pub ok : Bool
  pub now : ℕ
  pub is : new ≡ settled lane ok now
  pub tried : IsTried lane
  pub told : ok ≡ table (first_of lane) lane.failed
  pub makes : marks_at homes r marks ≡ marked (first_of lane) (mark_of lane ok)
  pub begun : begins homes r e ≡ 0
  pub closed : ends homes r e ≡ 1
  pub untried : (n : ℕ) → tries n e ≡ 0

abbrev pub Moves : (ℕ → ℕ → Bool) → List ℕ → ℕ → Event → List NoteMark → Laned → Laned → Type 0
Moves table homes r e marks lane new = Stays homes r e marks lane new ⊎ (Opens homes r e marks lane new ⊎ Closes table homes r e marks lane new)

lane_same : (queue : Queued) (r : ℕ) (lane : Laned) → r < length queue.lanes → lane_at (with_lane queue r lane) r ≡ lane
lane_same queue r lane there = get_or-set_same queue.lanes r lane no_lane there

lane_other : (queue : Queued) (r j : ℕ) (lane : Laned) → j ≢ r → lane_at (with_lane queue r lane) j ≡ lane_at queue j
lane_other queue r j lane not = get_or-set_other queue.lanes r j lane no_lane not

marked_here : (homes : List ℕ) (r n : ℕ) (o : Option Mark) → home_in homes n ≡ r → marks_at homes r (marked n o) ≡ marked n o
marked_here homes r n None here = refl
marked_here homes r n (Some mark) here = let test : (home_in homes n == r) ≡ true = eq-eqb (home_in homes n) r here in rw test refl

marked_elsewhere : (homes : List ℕ) (r n : ℕ) (o : Option Mark) → home_in homes n ≢ r → marks_at homes r (marked n o) ≡ []
marked_elsewhere homes r n None there = refl
marked_elsewhere homes r n (Some mark) there = let test : (home_in homes n == r) ≡ false = ne_eqb (home_in homes n) r there in rw test refl

tried_moves : (table : ℕ → ℕ → Bool) (queue : Queued) (now n r : ℕ) → IsLeastDue (moved queue now) n
    → Moves table queue.homes r (Take now (Try n)) [] (lane_at queue r) (lane_at (happens queue (Take now (Try n))) r)
tried_moves table queue now n r may = elim (cases_eq (home queue n) r) [
  | inl here ↦
      let test : (home queue n == home queue n) ≡ true = eq-eqb (home queue n) (home queue n) refl in
      let at_home : Moves table queue.homes (home queue n) (Take now (Try n)) [] (lane_at queue (home queue n)) (lane_at (happens queue (Take now (Try n))) (home queue n)) =
      inr (inl (record {
        is = lane_same (moved queue now) (home queue n) (opened (lane_at queue (home queue n))) may.first.there;
        idle = may.due.idle;
        none = refl;
        begun = ap (λ (b : Bool). cond b 1 0) test;
        closed = refl;
        tried = λ m. ap (λ (k : ℕ). cond (k == m) 1 0) (sym may.first.first);
      })) in
      subst (λ (k : ℕ). Moves table queue.homes k (Take now (Try n)) [] (lane_at queue k) (lane_at (happens queue (Take now (Try n))) k)) here at_home
  | inr there ↦
      inl (record {
        same = lane_other (moved queue now) (home queue n) r (opened (lane_at queue (home queue n))) (λ e. there (sym e));
        none = refl;
        begun = ap (λ (b : Bool). cond b 1 0) (ne_eqb (home queue n) r there);
        closed = refl;
        untried = λ m is. ap (λ (b : Bool). cond b 1 0) (ne_eqb n m (λ e. there (ap (home queue) e ∙ is)));
      })
]

ended_moves : (table : ℕ → ℕ → Bool) (queue : Queued) (n : ℕ) (ok : Bool) (now r : ℕ) → HasOpen queue n → ok ≡ table n (lane_at queue (home queue n)).failed
    → Moves table queue.homes r (End n ok now) (made_by queue (End n ok now)) (lane_at queue r) (lane_at (happens queue (End n ok now)) r)
ended_moves table queue n ok now r may told = elim (cases_eq (home queue n) r) [
  | inl here ↦
      let test : (home queue n == home queue n) ≡ true = eq-eqb (home queue n) (home queue n) refl in
      let lane = lane_at queue (home queue n) in
      let at_home : Moves table queue.homes (home queue n) (End n ok now) (made_by queue (End n ok now)) lane (lane_at (happens queue (End n ok now)) (home queue n)) =
      inr (inr (record {
        ok = ok;
        now = (moved queue now).now;
        is = lane_same (moved queue now) (home queue n) (settled lane ok (moved queue now).now) may.first.there;
        tried = may.tried;
        told = told ∙ ap (λ (k : ℕ). table k lane.failed) (sym may.first.first);
        makes = marked_here queue.homes (home queue n) n (mark_of lane ok) refl ∙ ap (λ (k : ℕ). marked k (mark_of lane ok)) (sym may.first.first);
        begun = refl;
        closed = ap (λ (b : Bool). cond b 1 0) test;
        untried = λ m. refl;
      })) in
      subst (λ (k : ℕ). Moves table queue.homes k (End n ok now) (made_by queue (End n ok now)) (lane_at queue k) (lane_at (happens queue (End n ok now)) k)) here at_home
  | inr there ↦
      inl (record {
        same = lane_other (moved queue now) (home queue n) r (settled (lane_at queue (home queue n)) ok (moved queue now).now) (λ e. there (sym e));
        none = marked_elsewhere queue.homes r n (mark_of (lane_at queue (home queue n)) ok) there;
        begun = refl;
        closed = ap (λ (b : Bool). cond b 1 0) (ne_eqb (home queue n) r there);
        untried = λ m is. refl;
      })
]

-- each call does one of the three
pub moves : (table : ℕ → ℕ → Bool) (queue : Queued) (e : Event) (r : ℕ) → MayHappen queue e → IsTold table queue e
    → Moves table queue.homes r e (made_by queue e) (lane_at queue r) (lane_at (happens queue e) r)
moves table queue (Take now (Try n)) r may told = tried_moves table queue now n r may
moves table queue (Take now (Later at)) r may told = inl (record { same = refl; none = refl; begun = refl; closed = refl; untried = λ n is. refl })
moves table queue (Take now Busy) r may told = inl (record { same = refl; none = refl; begun = refl; closed = refl; untried = λ n is. refl })
moves table queue (Take now Nothing) r may told = inl (record { same = refl; none = refl; begun = refl; closed = refl; untried = λ n is. refl })
moves table queue (End n ok now) r may told = ended_moves table queue n ok now r may told

same_length : (queue : Queued) (e : Event) → length (happens queue e).lanes ≡ length queue.lanes
same_length queue (Take now (Try n)) = length-set queue.lanes (home queue n) (opened (lane_at queue (home queue n)))
same_length queue (Take now (Later at)) = refl
same_length queue (Take now Busy) = refl
same_length queue (Take now Nothing) = refl
same_length queue (End n ok now) = length-set queue.lanes (home queue n) (settled (lane_at queue (home queue n)) ok (moved queue now).now)

same_homes : (queue : Queued) (e : Event) → (happens queue e).homes ≡ queue.homes
same_homes queue (Take now (Try n)) = refl
same_homes queue (Take now (Later at)) = refl
same_homes queue (Take now Busy) = refl
same_homes queue (Take now Nothing) = refl
same_homes queue (End n ok now) = refl

-- each lane goes on
abbrev pub AllGo : (ℕ → ℕ → Bool) → Queued → Type 0
AllGo table queue = (r : ℕ) → r < length queue.lanes → Goes table (lane_at queue r)

goes_on : (table : ℕ → ℕ → Bool) (queue : Queued) (e : Event) → AllGo table queue → MayHappen queue e → IsTold table queue e → AllGo table (happens queue e)
goes_on table queue e all may told r there =
    let before : r < length queue.lanes = omega (arith, same_length queue e) in
    let goes = all r before in
    elim (moves table queue e r may told) [
      | inl stays ↦ subst (Goes table) (sym stays.same) goes
      | inr more ↦ elim more [
        | inl opens ↦ let next : Goes table (opened (lane_at queue r)) = record { fewer = goes.fewer; failures = goes.failures; rising = goes.rising } in subst (Goes table) (sym opens.is) next
        | inr closes ↦ subst (Goes table) (sym closes.is) (settles table (lane_at queue r) closes.ok closes.now goes closes.tried.some closes.told).goes
      ]
    ]

-- what one session makes of a recipient's lane is what the call makes, and what one session makes then
one_answer : (table : ℕ → ℕ → Bool) (queue : Queued) (e : Event) (r : ℕ) → Goes table (lane_at queue r) → MayHappen queue e → IsTold table queue e
    → marks_at queue.homes r (made_by queue e) ++ answer table (lane_at (happens queue e) r) ≡ answer table (lane_at queue r)
one_answer table queue e r goes may told =
    let marks = marks_at queue.homes r (made_by queue e) in
    let lane = lane_at queue r in
    let new = lane_at (happens queue e) r in
    elim (moves table queue e r may told) [
      | inl stays ↦ ap (λ (l : Laned). marks ++ answer table l) stays.same ∙ ap (λ (ms : List NoteMark). ms ++ answer table lane) stays.none
      | inr more ↦ elim more [
        | inl opens ↦ ap (λ (l : Laned). marks ++ answer table l) opens.is ∙ ap (λ (ms : List NoteMark). ms ++ answer table lane) opens.none
        | inr closes ↦
            ap (λ (l : Laned). marks ++ answer table l) closes.is
            ∙ ap (λ (ms : List NoteMark). ms ++ answer table (settled lane closes.ok closes.now)) closes.makes
            ∙ (settles table lane closes.ok closes.now goes closes.tried.some closes.told).answers
      ]
    ]

pub all_answers : (table : ℕ → ℕ → Bool) (queue : Queued) (es : List Event) → AllGo table queue → AreAllowed table queue es → (r : ℕ) → r < length queue.lanes
    → marks_at queue.homes r (made queue es) ++ answer table (lane_at (run queue es) r) ≡ answer table (lane_at queue r)
all_answers table queue [] all allowed r there = refl
all_answers table queue (e ∷ es) all allowed r there =
    let next = happens queue e in
    let last = answer table (lane_at (run next es) r) in
    let marks = marks_at queue.homes r (made_by queue e) in
    let before : r < length next.lanes = omega (arith, same_length queue e) in
    let rest : marks_at next.homes r (made next es) ++ last ≡ answer table (lane_at next r) = all_answers table next es (goes_on table queue e all allowed.0 allowed.1) allowed.2 r before in
    let rest' : marks_at queue.homes r (made next es) ++ last ≡ answer table (lane_at next r) = subst (λ (hs : List ℕ). marks_at hs r (made next es) ++ last ≡ answer table (lane_at next r)) (same_homes queue e) rest in
    ap (λ (ms : List NoteMark). ms ++ last) (filter-append (λ (m : NoteMark). home_in queue.homes m.note == r) (made_by queue e) (made next es))
    ∙ append_assoc marks (marks_at queue.homes r (made next es)) last
    ∙ ap (λ (ms : List NoteMark). marks ++ ms) rest'
    ∙ one_answer table queue e r (all r there) allowed.0 allowed.1

-- so many tries of a note are enough for a lane
record Covers (lane : Laned) (n b : ℕ) : Type 0 where
  here : 0 < length lane.left → first_of lane ≡ n → lane.limit ≤ b + (lane.failed + open_tries lane)
  later : 0 < length lane.left → first_of lane < n → lane.limit ≤ b

covers_settled : (left : List ℕ) (failed limit interval due : ℕ) (ok : Bool) (now n b : ℕ) → AreRising left → 0 < length left
    → Covers (record { left = left; failed = failed; limit = limit; interval = interval; is_open = true; due = due }) n b
    → Covers (settled (record { left = left; failed = failed; limit = limit; interval = interval; is_open = true; due = due }) ok now) n b
covers_settled [] failed limit interval due ok now n b rising some covers = absurd (omega arith)
covers_settled (first ∷ rest) failed limit interval due ok now n b rising some covers = go ok
  where
    passed : Covers (record { left = rest; failed = 0; limit = limit; interval = interval; is_open = false; due = 0 }) n b
    passed = record {
      here = λ more is. let less : first < slice_index rest 0 = rising zero (suc zero) (omega arith) (omega arith) in omega (arith, covers.later (omega arith) (omega arith));
      later = λ more is. let less : first < slice_index rest 0 = rising zero (suc zero) (omega arith) (omega arith) in omega (arith, covers.later (omega arith) (omega arith));
    }

    go : (c : Bool) → Covers (settled (record { left = first ∷ rest; failed = failed; limit = limit; interval = interval; is_open = true; due = due }) c now) n b
    go true = passed
    go false = elim (cases_Bool (failed + 1 == limit)) [
      | inl last ↦ rw last passed
      | inr more ↦
          let again : Covers (record { left = first ∷ rest; failed = failed + 1; limit = limit; interval = interval; is_open = false; due = min (now + interval * 1000000000) greatest }) n b = record {
            here = λ there is. omega (arith, covers.here there is);
            later = λ there less. covers.later there less;
          } in
          rw more again
    ]

covers_closed : (lane : Laned) (ok : Bool) (now n b : ℕ) → AreRising lane.left → IsTried lane → Covers lane n b → Covers (settled lane ok now) n b
covers_closed lane ok now n b rising tried covers =
    let is : lane ≡ record lane { is_open = true } = ap (λ (o : Bool). record lane { is_open = o }) tried.tried in
    let open_covers : Covers (record lane { is_open = true }) n b = subst (λ (l : Laned). Covers l n b) is covers in
    let next = covers_settled lane.left lane.failed lane.limit lane.interval lane.due ok now n b rising tried.some open_covers in
    subst (λ (l : Laned). Covers (settled l ok now) n b) (sym is) next

limit_step : (table : ℕ → ℕ → Bool) (queue : Queued) (e : Event) (n count b : ℕ) → Goes table (lane_at queue (home queue n))
    → Moves table queue.homes (home queue n) e (made_by queue e) (lane_at queue (home queue n)) (lane_at (happens queue e) (home queue n))
    → ((k : ℕ) → Covers (lane_at (happens queue e) (home queue n)) n k → count ≤ k) → Covers (lane_at queue (home queue n)) n b → tries n e + count ≤ b
limit_step table queue e n count b goes (inl stays) rest covers =
    let none : tries n e ≡ 0 = stays.untried n refl in omega (arith, rest b (subst (λ (l : Laned). Covers l n b) (sym stays.same) covers))
limit_step table queue e n count b goes (inr (inl opens)) rest covers =
    let lane = lane_at queue (home queue n) in
    elim (cases_eq (first_of lane) n) [
      | inl is ↦
          let one : tries n e ≡ 1 = opens.tried n ∙ ap (λ (t : Bool). cond t 1 0) (eq-eqb (first_of lane) n is) in
          let enough : lane.limit ≤ b + (lane.failed + open_tries lane) = covers.here opens.idle.some is in
          let closed : open_tries lane ≡ 0 = ap (λ (t : Bool). cond t 1 0) opens.idle.free in
          let left : Covers (opened lane) n (b - 1) = record {
            here = λ some e. omega (arith, goes.fewer);
            later = λ some less. absurd (omega arith);
          } in
          omega (arith, goes.fewer, rest (b - 1) (subst (λ (l : Laned). Covers l n (b - 1)) (sym opens.is) left))
      | inr not ↦
          let none : tries n e ≡ 0 = opens.tried n ∙ ap (λ (t : Bool). cond t 1 0) (ne_eqb (first_of lane) n not) in
          let left : Covers (opened lane) n b = record { here = λ some e. absurd (not e); later = covers.later } in
          omega (arith, rest b (subst (λ (l : Laned). Covers l n b) (sym opens.is) left))
    ]
limit_step table queue e n count b goes (inr (inr closes)) rest covers =
    let lane = lane_at queue (home queue n) in
    let none : tries n e ≡ 0 = closes.untried n in
    let left : Covers (settled lane closes.ok closes.now) n b = covers_closed lane closes.ok closes.now n b goes.rising closes.tried covers in
    omega (arith, rest b (subst (λ (l : Laned). Covers l n b) (sym closes.is) left))

all_limits : (table : ℕ → ℕ → Bool) (queue : Queued) (es : List Event) → AllGo table queue → AreAllowed table queue es
    → (n : ℕ) → home queue n < length queue.lanes → (b : ℕ) → Covers (lane_at queue (home queue n)) n b → count_tries n es ≤ b
all_limits table queue [] all allowed n there b covers = omega arith
all_limits table queue (e ∷ es) all allowed n there b covers =
    let next = happens queue e in
    let r = home queue n in
    let same : home next n ≡ r = ap (λ (hs : List ℕ). home_in hs n) (same_homes queue e) in
    let inside : home next n < length next.lanes = omega (arith, same, same_length queue e) in
    let rest : (k : ℕ) → Covers (lane_at next r) n k → count_tries n es ≤ k =
    λ k cover. all_limits table next es (goes_on table queue e all allowed.0 allowed.1) allowed.2 n inside k (subst (λ (h : ℕ). Covers (lane_at next h) n k) (sym same) cover) in
    limit_step table queue e n (count_tries n es) b (all r there) (moves table queue e r allowed.0 allowed.1) rest covers

settled_closed : (lane : Laned) (ok : Bool) (now : ℕ) → open_tries (settled lane ok now) ≡ 0
settled_closed lane ok now = elim (cases_Bool (ok || (lane.failed + 1 == lane.limit))) [ inl last ↦ rw last refl | inr more ↦ rw more refl ]

one_open : (table : ℕ → ℕ → Bool) (queue : Queued) (e : Event) (r : ℕ) → MayHappen queue e → IsTold table queue e
    → begins queue.homes r e + open_tries (lane_at queue r) ≡ ends queue.homes r e + open_tries (lane_at (happens queue e) r)
one_open table queue e r may told =
    let lane = lane_at queue r in
    elim (moves table queue e r may told) [
      | inl stays ↦ omega (arith, stays.begun, stays.closed, ap open_tries stays.same)
      | inr more ↦ elim more [
        | inl opens ↦
            let shut : open_tries lane ≡ 0 = ap (λ (t : Bool). cond t 1 0) opens.idle.free in
            omega (arith, opens.begun, opens.closed, ap open_tries opens.is)
        | inr closes ↦
            let was : open_tries lane ≡ 1 = ap (λ (t : Bool). cond t 1 0) closes.tried.tried in
            omega (arith, closes.begun, closes.closed, ap open_tries closes.is, settled_closed lane closes.ok closes.now)
      ]
    ]

all_open : (table : ℕ → ℕ → Bool) (queue : Queued) (es : List Event) → AreAllowed table queue es → (r : ℕ)
    → count_begun queue.homes r es + open_tries (lane_at queue r) ≡ count_ended queue.homes r es + open_tries (lane_at (run queue es) r)
all_open table queue [] allowed r = refl
all_open table queue (e ∷ es) allowed r =
    let next = happens queue e in
    let rest = all_open table next es allowed.2 r in
    let rest' : count_begun queue.homes r es + open_tries (lane_at next r) ≡ count_ended queue.homes r es + open_tries (lane_at (run next es) r) =
    subst (λ (hs : List ℕ). count_begun hs r es + open_tries (lane_at next r) ≡ count_ended hs r es + open_tries (lane_at (run next es) r)) (same_homes queue e) rest in
    omega (arith, rest', one_open table queue e r allowed.0 allowed.1)

fresh_goes : (table : ℕ → ℕ → Bool) (queue : Queued) → AreFresh queue → AllGo table queue
fresh_goes table queue fresh r there =
    let is = fresh r there in
    record {
      fewer = omega (arith, is.untried, is.limited);
      failures = λ some. ap (succeeds (table (first_of (lane_at queue r)))) is.untried;
      rising = is.rising;
    }

pub keeps_answers : KeepsAnswers
keeps_answers table queue es fresh allowed r there = all_answers table queue es (fresh_goes table queue fresh) allowed r there

pub keeps_limits : KeepsLimits
keeps_limits table queue es fresh allowed n there =
    let lane = lane_at queue (home queue n) in
    all_limits table queue es (fresh_goes table queue fresh) allowed n there lane.limit (record { here = λ some is. omega arith; later = λ some less. omega arith })

pub keeps_one_open : KeepsOneOpen
keeps_one_open table queue es fresh allowed r there =
    let shut : open_tries (lane_at queue r) ≡ 0 = ap (λ (t : Bool). cond t 1 0) (fresh r there).closed in
    omega (arith, all_open table queue es allowed r)
