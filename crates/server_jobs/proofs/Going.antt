-- How the tries of notes go on.
use Rattle.std.proofs.Common.{◌≡◌, ◌≢◌, ◌∙◌, inl, inr, ℕ, suc, ◌+◌, ◌<◌, ◌≤◌, ◌==◌, ◌||◌, Bool, true, false, cond, List, [], ◌∷◌, ◌++◌, length, map, drop, slice_index, Option, Some, None, Result, Ok, Err, refl, sym, ap, subst, arith, append_assoc, append-nil, length-set, eq-eqb, get_or-set_same, get_or-set_other, true≢false}
use Rattle.std.specs.Prelude.{is_ok, is_some, not, if◌then◌else◌}
use Rattle.std.specs.List.{list_any}
use Rattle.std.proofs.lemmas.Bool.{cases_eq, ne_eqb}
use Rattle.std.proofs.lemmas.List.{map-append}
use Rattle.std.proofs.lemmas.List.Elements.{filter-append, All-from_get_or}
use Rattle.std.proofs.lemmas.List.Folds.{list_any_none}
use Rattle.std.proofs.lemmas.List.Sums.{sum_by-set}
use Rattle.outside.specs.Causes.{Rose}
use Rattle.outside.specs.Spawning.{SpawnerTells}
use Rattle.outside.specs.declared.spawner.Run.{Run}
use Rattle.alert_marks.specs.Marks.{has_mark}
use Rattle.alert_marks.specs.declared.types.AddError.{AddError}
use Rattle.alert_marks.proofs.Once.{once_more}
use Rattle.alert_marks.proofs.States.{marked_push}
use Rattle.alert_media.specs.declared.media.Media.{Media}
use Rattle.alert_queue.specs.Lanes.{Laned, first_of, IsTried, opened, settled, mark_of}
use Rattle.alert_queue.specs.Queues.{Queued, no_lane, lane_at, home, home_in, HasOpen, IsOver}
use Rattle.alert_queue.specs.Events.{End, moved, happens, marked}
use Rattle.alert_queue.specs.Law.{marks_at, AreRising, AreFresh}
use Rattle.alert_queue.specs.declared.types.Mark.{Mark}
use Rattle.alert_queue.specs.declared.types.NoteMark.{NoteMark}
use Rattle.alert_run.specs.declared.types.Note.{Note}
use Rattle.server_jobs.specs.Tries.{Attempt, tries_at, count_failed, medium_for, note_at, run_of, run_with, AddsRuns, RisenBy}
use Rattle.server_jobs.specs.Numbering.{AreWithin}
use Rattle.server_jobs.specs.Turning.{NoneOpen, begun, Begins, Ends, with_mark, IsMarkedSo, weigh_lane, weigh}
use Rattle.server_jobs.specs.Working.{AreMarked, Worked}
use Rattle.server_jobs.proofs.Runs.{adds_none, adds_both, adds_one}
use Rattle.server_jobs.proofs.Lanes.{LaneTried, in_order, lane_fresh, lane_opened, lane_settled, left_by, lane_lighter}
use Rattle.server_jobs.proofs.Ending.{marked_all}

-- what was tried so far, and that each note that was done with has its mark
pub record Going (media : Media) (notes : List Note) (start queue : Queued) (spawner spawner' : SpawnerTells) (before now : List NoteMark) : Type 0 where
  pub tries : List Attempt
  pub runs : AddsRuns spawner.runs spawner'.runs (map (run_of media notes) tries)
  pub counted : RisenBy (count_failed tries) spawner.faults spawner'.faults
  pub made : List NoteMark
  pub marks_are : now ≡ before ++ made
  pub homes_are : queue.homes ≡ start.homes
  pub count : length queue.lanes ≡ length start.lanes
  pub lanes : (r : ℕ) → r < length queue.lanes → LaneTried (lane_at start r).limit (lane_at start r).left (lane_at queue r) (tries_at queue.homes r tries) (marks_at queue.homes r made)
  pub known : IsMarkedSo queue now
  pub closed : NoneOpen queue

pub going_none : (media : Media) (notes : List Note) (start : Queued) (s : SpawnerTells) (before : List NoteMark) → AreFresh start → IsMarkedSo start before → Going media notes start start s s before before
going_none media notes start s before fresh known = record {
  tries = [];
  runs = adds_none s.runs;
  counted = omega arith;
  made = [];
  marks_are = sym (append-nil before);
  homes_are = refl;
  count = refl;
  lanes = λ r there. lane_fresh (lane_at start r) (fresh r there).untried (fresh r there).limited (fresh r there).rising;
  known = known;
  closed = λ r there. (fresh r there).closed;
}

pub worked_so : (media : Media) (notes : List Note) (start queue : Queued) (s s' : SpawnerTells) (before now : List NoteMark) → Going media notes start queue s s' before now → Worked media notes start s s' before now
worked_so media notes start queue s s' before now g = record {
  tries = g.tries;
  runs = g.runs;
  counted = g.counted;
  made = g.made;
  marks_are = inl g.marks_are;
  each = λ r there. in_order (lane_at start r).limit (lane_at start r).left (lane_at queue r) (tries_at start.homes r g.tries) (marks_at start.homes r g.made)
      (subst (λ (hs : List ℕ). LaneTried (lane_at start r).limit (lane_at start r).left (lane_at queue r) (tries_at hs r g.tries) (marks_at hs r g.made)) g.homes_are (g.lanes r (omega (arith, there, g.count))));
}

-- ---- one more of a list

tries_here : (homes : List ℕ) (r : ℕ) (tries : List Attempt) (a : Attempt) → home_in homes a.note ≡ r → tries_at homes r (tries ++ a ∷ []) ≡ tries_at homes r tries ++ a ∷ []
tries_here homes r tries a is =
    filter-append (λ (x : Attempt). home_in homes x.note == r) tries (a ∷ [])
    ∙ ap (λ (b : Bool). tries_at homes r tries ++ cond b (a ∷ []) []) (eq-eqb (home_in homes a.note) r is)

tries_there : (homes : List ℕ) (r : ℕ) (tries : List Attempt) (a : Attempt) → home_in homes a.note ≢ r → tries_at homes r (tries ++ a ∷ []) ≡ tries_at homes r tries
tries_there homes r tries a other =
    filter-append (λ (x : Attempt). home_in homes x.note == r) tries (a ∷ [])
    ∙ ap (λ (b : Bool). tries_at homes r tries ++ cond b (a ∷ []) []) (ne_eqb (home_in homes a.note) r other)
    ∙ append-nil (tries_at homes r tries)

marks_here : (homes : List ℕ) (r : ℕ) (made : List NoteMark) (n : ℕ) (mark : Option Mark) → home_in homes n ≡ r → marks_at homes r (made ++ marked n mark) ≡ marks_at homes r made ++ marked n mark
marks_here homes r made n None is = ap (marks_at homes r) (append-nil made) ∙ sym (append-nil (marks_at homes r made))
marks_here homes r made n (Some mark) is =
    filter-append (λ (x : NoteMark). home_in homes x.note == r) made (marked n (Some mark))
    ∙ ap (λ (b : Bool). marks_at homes r made ++ cond b (marked n (Some mark)) []) (eq-eqb (home_in homes n) r is)

marks_there : (homes : List ℕ) (r : ℕ) (made : List NoteMark) (n : ℕ) (mark : Option Mark) → home_in homes n ≢ r → marks_at homes r (made ++ marked n mark) ≡ marks_at homes r made
marks_there homes r made n None other = ap (marks_at homes r) (append-nil made)
marks_there homes r made n (Some mark) other =
    filter-append (λ (x : NoteMark). home_in homes x.note == r) made (marked n (Some mark))
    ∙ ap (λ (b : Bool). marks_at homes r made ++ cond b (marked n (Some mark)) []) (ne_eqb (home_in homes n) r other)
    ∙ append-nil (marks_at homes r made)

count_push : (tries : List Attempt) (a : Attempt) → count_failed (tries ++ a ∷ []) ≡ count_failed tries + (if a.ok then 0 else 1)
count_push [] a = omega arith
count_push (t ∷ tries) a = omega (arith, count_push tries a)

counted_more : (tries : List Attempt) (n : ℕ) (ok : Bool) (a b c : ℕ) → RisenBy (count_failed tries) a b → b ≤ c → (ok ≡ false → Rose b c) → RisenBy (count_failed (tries ++ record { note = n; ok = ok } ∷ [])) a c
counted_more tries n true a b c counted later rose = let more = count_push tries (record { note = n; ok = true }) in omega (arith, more, counted, later)
counted_more tries n false a b c counted later rose = let more = count_push tries (record { note = n; ok = false }) in let r = rose refl in omega (arith, more, counted, r)

-- ---- what is left of a lane

-- a note doesn't come again
comes_once : (n : ℕ) (rest : List ℕ) → AreRising (n ∷ rest) → list_any (λ (k : ℕ). k == n) rest ≡ false
comes_once n rest rising = list_any_none (λ (k : ℕ). k == n) rest (All-from_get_or (λ (k : ℕ). (k == n) ≡ false) rest 0 (λ i inside.
    let above : n < slice_index rest i = rising 0 (suc i) (omega arith) (omega (arith, inside)) in
    ne_eqb (slice_index rest i) n (λ e. apart n (slice_index rest i) above e)))
  where
    apart : (a b : ℕ) → a < b → b ≡ a → ⊥
    apart a b less e = omega (arith, less, e)

any_first : (left : List ℕ) (n : ℕ) → 0 < length left → slice_index left 0 ≡ n → list_any (λ (k : ℕ). k == n) left ≡ true
any_first [] n some is = absurd (omega arith)
any_first (k ∷ left) n some is = ap (λ (b : Bool). b || list_any (λ (j : ℕ). j == n) left) (eq-eqb k n is)

any_same : (left : List ℕ) (n : ℕ) → 0 < length left → slice_index left 0 ≡ n → AreRising left → list_any (λ (k : ℕ). k == n) (drop 1 left) ≡ false
any_same [] n some is rising = absurd (omega arith)
any_same (k ∷ left) n some is rising = subst (λ (j : ℕ). list_any (λ (x : ℕ). x == j) left ≡ false) is (comes_once k left rising)

any_other : (left : List ℕ) (n m : ℕ) → 0 < length left → slice_index left 0 ≡ n → n ≢ m → list_any (λ (k : ℕ). k == m) (drop 1 left) ≡ list_any (λ (k : ℕ). k == m) left
any_other [] n m some is other = absurd (omega arith)
any_other (k ∷ left) n m some is other = ap (λ (b : Bool). b || list_any (λ (j : ℕ). j == m) left) (sym (ne_eqb k m (λ e. other (sym is ∙ e))))

or_true : (b : Bool) → (b || true) ≡ true
or_true true = refl
or_true false = refl

or_false : (b : Bool) → (b || false) ≡ b
or_false true = refl
or_false false = refl

within_push : (total : ℕ) (marks : List NoteMark) (m : NoteMark) → AreWithin total marks → m.note ≤ total → AreWithin total (marks ++ m ∷ [])
within_push total [] m within low = (low, tt)
within_push total (x ∷ marks) m within low = (within.0, within_push total marks m within.1 low)

-- ---- a try that began and ended

module _ (media : Media) (notes : List Note) (start queue : Queued) (s s1 : SpawnerTells) (before now : List NoteMark) (g : Going media notes start queue s s1 before now) (n : ℕ) (queue1 : Queued) (b : Begins queue queue1 n) where
  abbrev h : ℕ
  h = home queue n

  abbrev lane : Laned
  lane = lane_at queue h

  -- its note has no mark yet
  pub is_free : has_mark now n ≡ false
  is_free = g.known.agrees n b.first.numbered b.first.known ∙ ap not (any_first lane.left n b.idle.some b.first.first)

  opened_at : lane_at (begun queue b.now n) h ≡ opened lane
  opened_at = get_or-set_same queue.lanes h (opened lane) no_lane b.first.there

  -- it is open
  pub has_open : HasOpen queue1 n
  has_open = subst (λ (q : Queued). HasOpen q n) (sym b.queue_is) (record {
    first = record {
      numbered = b.first.numbered;
      known = b.first.known;
      there = omega (arith, b.first.there, length-set queue.lanes h (opened lane));
      first = ap first_of opened_at ∙ b.first.first;
    };
    tried = subst IsTried (sym opened_at) (record { tried = refl; some = b.idle.some });
  })

  module _ (note : Note) (is : note_at notes n ≡ note) (s2 : SpawnerTells) (queue2 : Queued) (mark : Option Mark) (e : Ends (medium_for media note.recipient).command note n s1 s2 queue1 queue2 mark) where
    abbrev q1 : Queued
    q1 = begun queue b.now n

    abbrev q2 : Queued
    q2 = happens q1 (End n e.ok e.now)

    abbrev then_now : ℕ
    then_now = (moved q1 e.now).now

    abbrev attempt : Attempt
    attempt = record { note = n; ok = e.ok }

    queue2_is : queue2 ≡ q2
    queue2_is = e.queue_is ∙ ap (λ (q : Queued). happens q (End n e.ok e.now)) b.queue_is

    mark_is : mark ≡ mark_of lane e.ok
    mark_is = e.mark_is ∙ ap (λ (q : Queued). mark_of (lane_at q (home q n)) e.ok) b.queue_is ∙ ap (λ (l : Laned). mark_of l e.ok) opened_at

    count1 : length q1.lanes ≡ length queue.lanes
    count1 = length-set queue.lanes h (opened lane)

    count2 : length q2.lanes ≡ length queue.lanes
    count2 = length-set q1.lanes h (settled (lane_at q1 h) e.ok then_now) ∙ count1

    lane_here : lane_at q2 h ≡ settled (opened lane) e.ok then_now
    lane_here = get_or-set_same q1.lanes h (settled (lane_at q1 h) e.ok then_now) no_lane (omega (arith, count1, b.first.there)) ∙ ap (λ (l : Laned). settled l e.ok then_now) opened_at

    lane_there : (r : ℕ) → h ≢ r → lane_at q2 r ≡ lane_at queue r
    lane_there r other =
        get_or-set_other q1.lanes h r (settled (lane_at q1 h) e.ok then_now) no_lane (λ same. other (sym same))
        ∙ get_or-set_other queue.lanes h r (opened lane) no_lane (λ same. other (sym same))

    -- less is left
    pub lighter : weigh queue2 < weigh queue
    lighter =
        let limited = g.lanes h b.first.there in
        let fewer : lane.failed < lane.limit = omega (arith, limited.fewer, limited.limit_is) in
        let first = sum_by-set weigh_lane queue.lanes h (opened lane) no_lane b.first.there in
        let second = sum_by-set weigh_lane q1.lanes h (settled (lane_at q1 h) e.ok then_now) no_lane (omega (arith, count1, b.first.there)) in
        let mid : weigh_lane (lane_at q1 h) ≡ weigh_lane (opened lane) = ap weigh_lane opened_at in
        let last : weigh_lane (settled (lane_at q1 h) e.ok then_now) ≡ weigh_lane (settled (opened lane) e.ok then_now) = ap (λ (l : Laned). weigh_lane (settled l e.ok then_now)) opened_at in
        let less : weigh_lane (settled (opened lane) e.ok then_now) < weigh_lane (opened lane) = lane_lighter (opened lane) e.ok then_now b.idle.some fewer in
        let all : weigh queue2 ≡ weigh q2 = ap weigh queue2_is in
        weighs (weigh queue2) (weigh q2) (weigh q1) (weigh queue) (weigh_lane lane) (weigh_lane (opened lane)) (weigh_lane (lane_at q1 h)) (weigh_lane (settled (lane_at q1 h) e.ok then_now)) (weigh_lane (settled (opened lane) e.ok then_now)) all first refl second mid last less
      where
        weighs : (a q2 q1 q0 l0 l1 m1 m2 l2 : ℕ) → a ≡ q2 → q1 + l0 ≡ q0 + l1 → l0 ≡ l1 → q2 + m1 ≡ q1 + m2 → m1 ≡ l1 → m2 ≡ l2 → l2 < l1 → a < q0
        weighs a q2 q1 q0 l0 l1 m1 m2 l2 p0 p1 p2 p3 p4 p5 p6 = omega (arith, p0, p1, p2, p3, p4, p5, p6)

    -- each recipient's tries, with the one more
    lanes_on : (r : ℕ) → r < length q2.lanes → LaneTried (lane_at start r).limit (lane_at start r).left (lane_at q2 r) (tries_at queue.homes r (g.tries ++ attempt ∷ [])) (marks_at queue.homes r (g.made ++ marked n mark))
    lanes_on r there = elim (cases_eq h r) [
      | inl same ↦
          let old = lane_opened (lane_at start h).limit (lane_at start h).left lane (tries_at queue.homes h g.tries) (marks_at queue.homes h g.made) (g.lanes h b.first.there) in
          let new = lane_settled (lane_at start h).limit (lane_at start h).left (opened lane) (tries_at queue.homes h g.tries) (marks_at queue.homes h g.made) e.ok then_now b.idle.some old in
          let at_first : LaneTried (lane_at start h).limit (lane_at start h).left (settled (opened lane) e.ok then_now) (tries_at queue.homes h g.tries ++ attempt ∷ []) (marks_at queue.homes h g.made ++ marked n mark) =
          subst (λ (o : Option Mark). LaneTried (lane_at start h).limit (lane_at start h).left (settled (opened lane) e.ok then_now) (tries_at queue.homes h g.tries ++ attempt ∷ []) (marks_at queue.homes h g.made ++ marked n o)) (sym mark_is)
          (subst (λ (k : ℕ). LaneTried (lane_at start h).limit (lane_at start h).left (settled (opened lane) e.ok then_now) (tries_at queue.homes h g.tries ++ record { note = k; ok = e.ok } ∷ []) (marks_at queue.homes h g.made ++ marked k (mark_of lane e.ok))) b.first.first new) in
          let at_home : LaneTried (lane_at start h).limit (lane_at start h).left (lane_at q2 h) (tries_at queue.homes h (g.tries ++ attempt ∷ [])) (marks_at queue.homes h (g.made ++ marked n mark)) =
          subst (λ (l : Laned). LaneTried (lane_at start h).limit (lane_at start h).left l (tries_at queue.homes h (g.tries ++ attempt ∷ [])) (marks_at queue.homes h (g.made ++ marked n mark))) (sym lane_here)
          (subst (λ (ts : List Attempt). LaneTried (lane_at start h).limit (lane_at start h).left (settled (opened lane) e.ok then_now) ts (marks_at queue.homes h (g.made ++ marked n mark))) (sym (tries_here queue.homes h g.tries attempt refl))
          (subst (λ (ms : List NoteMark). LaneTried (lane_at start h).limit (lane_at start h).left (settled (opened lane) e.ok then_now) (tries_at queue.homes h g.tries ++ attempt ∷ []) ms) (sym (marks_here queue.homes h g.made n mark refl)) at_first)) in
          subst (λ (k : ℕ). LaneTried (lane_at start k).limit (lane_at start k).left (lane_at q2 k) (tries_at queue.homes k (g.tries ++ attempt ∷ [])) (marks_at queue.homes k (g.made ++ marked n mark))) same at_home
      | inr other ↦
          subst (λ (l : Laned). LaneTried (lane_at start r).limit (lane_at start r).left l (tries_at queue.homes r (g.tries ++ attempt ∷ [])) (marks_at queue.homes r (g.made ++ marked n mark))) (sym (lane_there r other))
          (subst (λ (ts : List Attempt). LaneTried (lane_at start r).limit (lane_at start r).left (lane_at queue r) ts (marks_at queue.homes r (g.made ++ marked n mark))) (sym (tries_there queue.homes r g.tries attempt other))
          (subst (λ (ms : List NoteMark). LaneTried (lane_at start r).limit (lane_at start r).left (lane_at queue r) (tries_at queue.homes r g.tries) ms) (sym (marks_there queue.homes r g.made n mark other)) (g.lanes r (omega (arith, there, count2)))))
    ]

    runs_on : AddsRuns s.runs s2.runs (map (run_of media notes) (g.tries ++ attempt ∷ []))
    runs_on =
        let run : run_with (medium_for media note.recipient).command note e.ok ≡ run_of media notes attempt = ap (λ (m : Note). run_with (medium_for media m.recipient).command m e.ok) (sym is) in
        subst (AddsRuns s.runs s2.runs) (ap (λ (x : Run). map (run_of media notes) g.tries ++ x ∷ []) run ∙ sym (map-append (run_of media notes) g.tries (attempt ∷ [])))
        (adds_both s.runs s1.runs s2.runs (map (run_of media notes) g.tries) (run_with (medium_for media note.recipient).command note e.ok ∷ []) g.runs (adds_one s1.runs s2.runs (run_with (medium_for media note.recipient).command note e.ok) e.run))

    -- which notes have marks, with the one more
    left_here : (m : ℕ) → home queue m ≡ h → lane_at q2 (home q2 m) ≡ settled (opened lane) e.ok then_now
    left_here m same = ap (lane_at q2) same ∙ lane_here

    known_on : (o : Option Mark) → mark_of lane e.ok ≡ o → IsMarkedSo q2 (now ++ marked n o)
    known_on None none = subst (IsMarkedSo q2) (sym (append-nil now)) (record {
      agrees = λ m low high. g.known.agrees m low high ∙ sym (ap (λ (ns : List ℕ). not (list_any (λ (k : ℕ). k == m) ns)) (same m));
      once = g.known.once;
      within = g.known.within;
      inside = λ m low high. omega (arith, g.known.inside m low high, count2);
    })
      where
        same : (m : ℕ) → (lane_at q2 (home q2 m)).left ≡ (lane_at queue (home queue m)).left
        same m = elim (cases_eq h (home queue m)) [
          | inl here ↦ ap (λ (l : Laned). l.left) (left_here m (sym here)) ∙ (left_by (opened lane) e.ok then_now).none none ∙ ap (λ (k : ℕ). (lane_at queue k).left) here
          | inr other ↦ ap (λ (l : Laned). l.left) (lane_there (home queue m) other)
        ]
    known_on (Some x) some = record {
      agrees = λ m low high. marked_push now (record { note = n; mark = x }) m ∙ agrees m low high;
      once = once_more now (record { note = n; mark = x }) g.known.once b.first.numbered is_free;
      within = within_push (length queue.homes) now (record { note = n; mark = x }) g.known.within b.first.known;
      inside = λ m low high. omega (arith, g.known.inside m low high, count2);
    }
      where
        rising : AreRising lane.left
        rising = (g.lanes h b.first.there).rising

        agrees : (m : ℕ) → 1 ≤ m → m ≤ length queue.homes → (has_mark now m || (n == m)) ≡ not (list_any (λ (k : ℕ). k == m) (lane_at q2 (home q2 m)).left)
        agrees m low high = elim (cases_eq n m) [
          | inl same ↦
              let at : (lane_at q2 (home q2 m)).left ≡ drop 1 lane.left = ap (λ (l : Laned). l.left) (left_here m (ap (home queue) (sym same))) ∙ (left_by (opened lane) e.ok then_now).one x some in
              let none : list_any (λ (k : ℕ). k == m) (drop 1 lane.left) ≡ false = any_same lane.left m b.idle.some (b.first.first ∙ same) rising in
              ap (λ (t : Bool). has_mark now m || t) (eq-eqb n m same) ∙ or_true (has_mark now m) ∙ ap not (sym none) ∙ ap (λ (ns : List ℕ). not (list_any (λ (k : ℕ). k == m) ns)) (sym at)
          | inr other ↦
              ap (λ (t : Bool). has_mark now m || t) (ne_eqb n m other) ∙ or_false (has_mark now m) ∙ g.known.agrees m low high ∙ sym (ap not (same m other))
        ]
          where
            same : (m : ℕ) → n ≢ m → list_any (λ (k : ℕ). k == m) (lane_at q2 (home q2 m)).left ≡ list_any (λ (k : ℕ). k == m) (lane_at queue (home queue m)).left
            same m other = elim (cases_eq h (home queue m)) [
              | inl here ↦
                  ap (λ (l : Laned). list_any (λ (k : ℕ). k == m) l.left) (left_here m (sym here))
                  ∙ ap (λ (ns : List ℕ). list_any (λ (k : ℕ). k == m) ns) ((left_by (opened lane) e.ok then_now).one x some)
                  ∙ any_other lane.left n m b.idle.some b.first.first other
                  ∙ ap (λ (k : ℕ). list_any (λ (j : ℕ). j == m) (lane_at queue k).left) here
              | inr apart ↦ ap (λ (l : Laned). list_any (λ (k : ℕ). k == m) l.left) (lane_there (home queue m) apart)
            ]

    closed_on : NoneOpen q2
    closed_on r there = elim (cases_eq h r) [
      | inl same ↦ ap (λ (k : ℕ). (lane_at q2 k).is_open) (sym same) ∙ ap (λ (l : Laned). l.is_open) lane_here ∙ (left_by (opened lane) e.ok then_now).closed
      | inr other ↦ ap (λ (l : Laned). l.is_open) (lane_there r other) ∙ g.closed r (omega (arith, there, count2))
    ]

    -- a note's try more, with its mark
    going_on : Going media notes start q2 s s2 before (now ++ marked n mark)
    going_on = record {
      tries = g.tries ++ attempt ∷ [];
      runs = runs_on;
      counted = counted_more g.tries n e.ok s.faults s1.faults s2.faults g.counted e.later e.rose;
      made = g.made ++ marked n mark;
      marks_are = ap (λ (ms : List NoteMark). ms ++ marked n mark) g.marks_are ∙ append_assoc before g.made (marked n mark);
      homes_are = g.homes_are;
      count = count2 ∙ g.count;
      lanes = lanes_on;
      known = subst (λ (o : Option Mark). IsMarkedSo q2 (now ++ marked n o)) (sym mark_is) (known_on (mark_of lane e.ok) refl);
      closed = closed_on;
    }

    module _ (now' : List NoteMark) (r : Result (Unit {0}) AddError) (now_is : now' ≡ with_mark now n mark r) where
      pub going_ok : is_ok r ≡ true → Going media notes start queue2 s s2 before now'
      going_ok ok = subst (λ (q : Queued). Going media notes start q s s2 before now') (sym queue2_is) (go r ok now_is)
        where
          go : (t : Result (Unit {0}) AddError) → is_ok t ≡ true → now' ≡ with_mark now n mark t → Going media notes start q2 s s2 before now'
          go (Ok u) p now_is = subst (λ (l : List NoteMark). Going media notes start q2 s s2 before l) (sym now_is) going_on
          go (Err x) p now_is = absurd (true≢false (sym p))

      -- where the mark was refused
      pub worked_err : is_ok r ≡ false → is_some mark ≡ true → Worked media notes start s s2 before now'
      unfolding going_on worked_so
      worked_err bad some = go r bad now_is mark some refl
        where
          all : Worked media notes start s s2 before (now ++ marked n mark)
          all = worked_so media notes start q2 s s2 before (now ++ marked n mark) going_on

          go : (t : Result (Unit {0}) AddError) → is_ok t ≡ false → now' ≡ with_mark now n mark t → (o : Option Mark) → is_some o ≡ true → mark ≡ o → Worked media notes start s s2 before now'
          go (Ok u) p now_is o some same = absurd (true≢false p)
          go (Err x) p now_is None some same = absurd (true≢false (sym some))
          go (Err x) p now_is (Some m) some same = record {
            tries = g.tries ++ attempt ∷ [];
            runs = runs_on;
            counted = going_on.counted;
            made = g.made ++ marked n mark;
            marks_are = inr (record { note = n; mark = m }, ap (λ (l : List NoteMark). l ++ record { note = n; mark = m } ∷ []) now_is ∙ ap (λ (o : Option Mark). now ++ marked n o) (sym same) ∙ going_on.marks_are);
            each = all.each;
          }

-- ---- at the end

none_left : (left : List ℕ) (n : ℕ) → length left ≡ 0 → list_any (λ (k : ℕ). k == n) left ≡ false
none_left [] n none = refl
none_left (k ∷ left) n none = absurd (omega arith)

pub all_done : (media : Media) (notes : List Note) (start queue : Queued) (s s' : SpawnerTells) (before now : List NoteMark) → Going media notes start queue s s' before now → IsOver queue → length start.homes ≡ length notes
    → AreMarked (length notes) now
all_done media notes start queue s s' before now g over count =
    let total : length queue.homes ≡ length notes = ap length g.homes_are ∙ count in
    marked_all now (length notes) g.known.once (subst (λ (k : ℕ). AreWithin k now) total g.known.within)
    (λ n low high.
    let few : n ≤ length queue.homes = omega (arith, high, total) in
    g.known.agrees n low few ∙ ap not (none_left (lane_at queue (home queue n)).left n (over (home queue n) (g.known.inside n low few))))
