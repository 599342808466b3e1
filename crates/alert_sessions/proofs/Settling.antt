-- What the end of a try makes of a call.
use Rattle.std.proofs.Common.{◌≡◌, ◌≢◌, ◌≤◌, ◌<◌, ◌+◌, ℕ, zero, suc, ◌==◌, Bool, true, false, cond, ◌⊎◌, List, [], ◌∷◌, ◌++◌, length, drop, All, slice_index, slice_index_or, slice_set, Option, Some, None, refl, sym, ◌∙◌, ap, subst, inl, inr, arith, append_assoc, eqb-true, eq-eqb, get_or-set_same, get_or-set_other, length-set}
use Rattle.std.proofs.lemmas.Bool.{cases_lt, cases_eq, ne_eqb, true≢false}
use Rattle.std.proofs.lemmas.List.{append-nil, map-append, get_or_past, set_past}
use Rattle.std.proofs.lemmas.List.Elements.{filter-append, All-push, All-nil}
use Rattle.std.proofs.lemmas.List.Sums.{sum_by-set, sum_by-cons, sum_by-append}
use Rattle.alert_queue.specs.Lanes.{Laned, opened, mark_of, settled}
use Rattle.alert_queue.specs.Queues.{Queued, no_lane, lane_at, home, home_in, HasOpen, IsOver}
use Rattle.alert_queue.specs.Events.{Take, End, moved, happens}
use Rattle.alert_queue.specs.Law.{marks_at, AreFresh}
use Rattle.alert_queue.specs.declared.types.Taken.{Taken}
use Rattle.alert_queue.specs.declared.types.Taken.TheVariants.{Try, Later, Busy, Nothing}
use Rattle.alert_queue.specs.declared.types.Mark.{Mark}
use Rattle.alert_queue.specs.declared.types.Mark.TheVariants.{Done, Failed}
use Rattle.alert_queue.specs.declared.types.NoteMark.{NoteMark}
use Rattle.std.specs.Prelude.{is_some, is_none}
use Rattle.alert_marks.specs.declared.types.AddError.{AddError}
use Rattle.alert_sessions.specs.Runs.{fails, succeeds}
use Rattle.alert_sessions.specs.OnDisk.{Stated}
use Rattle.alert_sessions.specs.Calls.{notes_of, failing, failures_of, done_of, limits_of, count_failed, AreUnmarked, IsKnown, AreInOrder, Agrees, IsCall, IsCallAtEnd, EachMarked}

-- a try that ends makes a mark and leaves the rest, or makes none and is one failure more
pub record Passes (lane new : Laned) (mark : Option Mark) (ok : Bool) (m : Mark) : Type 0 where
  pub is : mark ≡ Some m
  pub left : new.left ≡ drop 1 lane.left
  pub failed : new.failed ≡ 0
  pub limit : new.limit ≡ lane.limit
  pub fails_are : failing m lane.limit ≤ lane.failed + fails ok
  pub done_are : done_of m ≡ succeeds ok

pub record Repeats (lane new : Laned) (mark : Option Mark) (ok : Bool) : Type 0 where
  pub is : mark ≡ None
  pub left : new.left ≡ lane.left
  pub failed : new.failed ≡ lane.failed + fails ok
  pub limit : new.limit ≡ lane.limit

pub ends_so : (lane : Laned) (ok : Bool) (now : ℕ) → ((m : Mark) × Passes lane (settled lane ok now) (mark_of lane ok) ok m) ⊎ Repeats lane (settled lane ok now) (mark_of lane ok) ok
ends_so lane true now = inl (Done, record { is = refl; left = refl; failed = refl; limit = refl; fails_are = omega arith; done_are = refl })
ends_so lane false now = go (lane.failed + 1 == lane.limit) refl
  where
    go : (b : Bool) → (lane.failed + 1 == lane.limit) ≡ b → ((m : Mark) × Passes lane (settled lane false now) (mark_of lane false) false m) ⊎ Repeats lane (settled lane false now) (mark_of lane false) false
    go true last =
        let limit : lane.failed + 1 ≡ lane.limit = eqb-true (lane.failed + 1) lane.limit last in
        inl (Failed, record { is = rw last refl; left = rw last refl; failed = rw last refl; limit = rw last refl; fails_are = omega arith; done_are = refl })
    go false more = inr (record { is = rw more refl; left = rw more refl; failed = rw more refl; limit = rw more refl })

-- the marks of a recipient, with one more
marks_more : (homes : List ℕ) (r : ℕ) (made : List NoteMark) (m : NoteMark) → home_in homes m.note ≡ r → notes_of (marks_at homes r (made ++ m ∷ [])) ≡ notes_of (marks_at homes r made) ++ m.note ∷ []
marks_more homes r made m here =
    let test : (home_in homes m.note == r) ≡ true = eq-eqb (home_in homes m.note) r here in
    let one : marks_at homes r (m ∷ []) ≡ m ∷ [] = rw test refl in
    ap notes_of (filter-append (λ (x : NoteMark). home_in homes x.note == r) made (m ∷ []) ∙ ap (λ (ms : List NoteMark). marks_at homes r made ++ ms) one)
    ∙ map-append (λ (x : NoteMark). x.note) (marks_at homes r made) (m ∷ [])

marks_same : (homes : List ℕ) (r : ℕ) (made : List NoteMark) (m : NoteMark) → home_in homes m.note ≢ r → marks_at homes r (made ++ m ∷ []) ≡ marks_at homes r made
marks_same homes r made m there =
    let test : (home_in homes m.note == r) ≡ false = ne_eqb (home_in homes m.note) r there in
    let one : marks_at homes r (m ∷ []) ≡ [] = rw test refl in
    filter-append (λ (x : NoteMark). home_in homes x.note == r) made (m ∷ []) ∙ ap (λ (ms : List NoteMark). marks_at homes r made ++ ms) one ∙ append-nil (marks_at homes r made)

-- a list with a first element
front_is : (left : List ℕ) → 0 < length left → slice_index left 0 ∷ drop 1 left ≡ left
front_is [] some = absurd (omega arith)
front_is (n ∷ rest) some = refl

module _ (start queue : Queued) (made : List NoteMark) (n : ℕ) (ok : Bool) (now : ℕ) (may : HasOpen queue n) (agrees : Agrees start queue made) where
  abbrev pub r : ℕ
  r = home queue n

  abbrev pub lane : Laned
  lane = lane_at queue r

  abbrev pub new : Queued
  new = happens queue (End n ok now)

  abbrev pub now_lane : Laned
  now_lane = settled lane ok (moved queue now).now

  here : lane_at new r ≡ now_lane
  here = get_or-set_same queue.lanes r now_lane no_lane may.first.there

  elsewhere : (s : ℕ) → s ≢ r → lane_at new s ≡ lane_at queue s
  elsewhere s not = get_or-set_other queue.lanes r s now_lane no_lane not

  size : length new.lanes ≡ length start.lanes
  size = length-set queue.lanes r now_lane ∙ agrees.size

  limits : now_lane.limit ≡ lane.limit → (s : ℕ) → (lane_at new s).limit ≡ (lane_at start s).limit
  limits same s = elim (cases_eq s r) [
    | inl is ↦ subst (λ (k : ℕ). (lane_at new k).limit ≡ (lane_at start k).limit) (sym is) (ap (λ (l : Laned). l.limit) here ∙ same ∙ agrees.limits r)
    | inr not ↦ ap (λ (l : Laned). l.limit) (elsewhere s not) ∙ agrees.limits s
  ]

  counted : count_failed new.lanes + lane.failed ≡ count_failed queue.lanes + now_lane.failed
  counted = sum_by-set (λ (l : Laned). l.failed) queue.lanes r now_lane no_lane may.first.there

  start_home : home_in start.homes n ≡ r
  start_home = ap (λ (hs : List ℕ). home_in hs n) (sym agrees.homes)

  pub agrees_repeated : Repeats lane now_lane (mark_of lane ok) ok → Agrees start new made
  agrees_repeated repeats = record {
    homes = agrees.homes;
    size = size;
    limits = limits repeats.limit;
    notes = λ s inner. elim (cases_eq s r) [
      | inl is ↦
          let at_home : notes_of (marks_at start.homes r made) ++ (lane_at new r).left ≡ (lane_at start r).left =
          ap (λ (l : List ℕ). notes_of (marks_at start.homes r made) ++ l) (ap (λ (l : Laned). l.left) here ∙ repeats.left) ∙ agrees.notes r may.first.there in
          subst (λ (k : ℕ). notes_of (marks_at start.homes k made) ++ (lane_at new k).left ≡ (lane_at start k).left) (sym is) at_home
      | inr not ↦ ap (λ (l : Laned). notes_of (marks_at start.homes s made) ++ l.left) (elsewhere s not) ∙ agrees.notes s (omega (arith, size, agrees.size))
    ];
  }

  pub agrees_passed : (m : Mark) → Passes lane now_lane (mark_of lane ok) ok m → Agrees start new (made ++ record { note = n; mark = m } ∷ [])
  agrees_passed m passes = record {
    homes = agrees.homes;
    size = size;
    limits = limits passes.limit;
    notes = λ s inner. elim (cases_eq s r) [
      | inl is ↦
          let front : n ∷ drop 1 lane.left ≡ lane.left = ap (λ (k : ℕ). k ∷ drop 1 lane.left) (sym may.first.first) ∙ front_is lane.left may.tried.some in
          let marks = notes_of (marks_at start.homes r made) in
          let at_home : notes_of (marks_at start.homes r (made ++ record { note = n; mark = m } ∷ [])) ++ (lane_at new r).left ≡ (lane_at start r).left =
          ap (λ (l : List ℕ). notes_of (marks_at start.homes r (made ++ record { note = n; mark = m } ∷ [])) ++ l) (ap (λ (l : Laned). l.left) here ∙ passes.left)
          ∙ ap (λ (l : List ℕ). l ++ drop 1 lane.left) (marks_more start.homes r made (record { note = n; mark = m }) start_home)
          ∙ append_assoc marks (n ∷ []) (drop 1 lane.left)
          ∙ ap (λ (l : List ℕ). marks ++ l) front
          ∙ agrees.notes r may.first.there in
          subst (λ (k : ℕ). notes_of (marks_at start.homes k (made ++ record { note = n; mark = m } ∷ [])) ++ (lane_at new k).left ≡ (lane_at start k).left) (sym is) at_home
      | inr not ↦
          ap (λ (ms : List NoteMark). notes_of ms ++ (lane_at new s).left) (marks_same start.homes s made (record { note = n; mark = m }) (λ e. not (sym e ∙ start_home)))
          ∙ ap (λ (l : Laned). notes_of (marks_at start.homes s made) ++ l.left) (elsewhere s not) ∙ agrees.notes s (omega (arith, size, agrees.size))
    ];
  }

-- what a function doesn't tell from the element that it replaces, it tells nowhere
set_like : {B : Type 0} (f : Laned → B) (lanes : List Laned) (i s : ℕ) (y : Laned) → f y ≡ f (slice_index_or lanes i no_lane)
    → f (slice_index_or (slice_set lanes i y) s no_lane) ≡ f (slice_index_or lanes s no_lane)
set_like f lanes i s y same = elim (cases_eq s i) [
  | inl is ↦ elim (cases_lt i (length lanes)) [
    | inl there ↦
        let at_place : f (slice_index_or (slice_set lanes i y) i no_lane) ≡ f (slice_index_or lanes i no_lane) = ap f (get_or-set_same lanes i y no_lane there) ∙ same in
        subst (λ (k : ℕ). f (slice_index_or (slice_set lanes i y) k no_lane) ≡ f (slice_index_or lanes k no_lane)) (sym is) at_place
    | inr past ↦
        let none_before : slice_index_or lanes s no_lane ≡ no_lane = get_or_past lanes s no_lane (omega arith) in
        let none_then : slice_index_or (slice_set lanes i y) s no_lane ≡ no_lane = get_or_past (slice_set lanes i y) s no_lane (omega (arith, length-set lanes i y)) in
        ap f (none_then ∙ sym none_before)
  ]
  | inr not ↦ ap f (get_or-set_other lanes i s y no_lane not)
]

-- a note is tried, or none
pub agrees_handed : (start queue : Queued) (made : List NoteMark) (now : ℕ) (taken : Taken) → Agrees start queue made → Agrees start (happens queue (Take now taken)) made
agrees_handed start queue made now (Try n) agrees = record {
  homes = agrees.homes;
  size = length-set queue.lanes (home queue n) (opened (lane_at queue (home queue n))) ∙ agrees.size;
  limits = λ s. like (λ (l : Laned). l.limit) refl s ∙ agrees.limits s;
  notes = λ s inner. ap (λ (l : List ℕ). notes_of (marks_at start.homes s made) ++ l) (like_left s) ∙ agrees.notes s (omega (arith, length-set queue.lanes (home queue n) (opened (lane_at queue (home queue n)))));
}
  where
    old : Laned
    old = lane_at queue (home queue n)

    like : (f : Laned → ℕ) → f (opened old) ≡ f old → (s : ℕ) → f (slice_index_or (slice_set queue.lanes (home queue n) (opened old)) s no_lane) ≡ f (lane_at queue s)
    like f same s = set_like f queue.lanes (home queue n) s (opened old) same

    like_left : (s : ℕ) → (slice_index_or (slice_set queue.lanes (home queue n) (opened old)) s no_lane).left ≡ (lane_at queue s).left
    like_left s = set_like (λ (l : Laned). l.left) queue.lanes (home queue n) s (opened old) refl
agrees_handed start queue made now (Later at) agrees = record { homes = agrees.homes; size = agrees.size; limits = agrees.limits; notes = agrees.notes }
agrees_handed start queue made now Busy agrees = record { homes = agrees.homes; size = agrees.size; limits = agrees.limits; notes = agrees.notes }
agrees_handed start queue made now Nothing agrees = record { homes = agrees.homes; size = agrees.size; limits = agrees.limits; notes = agrees.notes }

-- marks that agree are in order
order_of : (start queue : Queued) (made : List NoteMark) → All (IsKnown start) made → Agrees start queue made → AreInOrder start made
order_of start queue made each agrees = record {
  each = each;
  in_order = λ r inner. ((lane_at queue r).left, agrees.notes r (omega (arith, agrees.size)));
}

-- a note that is tried is known
known_of : (start queue : Queued) (made : List NoteMark) (n : ℕ) (m : Mark) → Agrees start queue made → HasOpen queue n → IsKnown start (record { note = n; mark = m })
known_of start queue made n m agrees may = record {
  numbered = may.first.numbered;
  known = subst (λ (hs : List ℕ). n ≤ length hs) agrees.homes may.first.known;
  there = subst (λ (hs : List ℕ). home_in hs n < length start.lanes) agrees.homes (omega (arith, may.first.there, agrees.size));
}

-- tries that are counted besides
pub call_more : (start queue : Queued) (kept list : List NoteMark) (f s more good : ℕ) (stopped : Bool) → IsCall start queue kept list f s stopped → IsCall start queue kept list (f + more) (s + good) stopped
call_more start queue kept list f s more good stopped call =
    record { made = call.made; list_is = call.list_is; fresh = call.fresh; unmarked = call.unmarked; order = call.order; failed = omega (arith, call.failed); done = omega (arith, call.done); agree = call.agree }

count_handed : (queue : Queued) (now : ℕ) (taken : Taken) → count_failed (happens queue (Take now taken)).lanes ≡ count_failed queue.lanes
count_handed queue now (Try n) = sum_like queue.lanes (home queue n)
  where
    sum_like : (lanes : List Laned) (i : ℕ) → count_failed (slice_set lanes i (opened (slice_index_or lanes i no_lane))) ≡ count_failed lanes
    sum_like lanes i = elim (cases_lt i (length lanes)) [
      | inl there ↦ omega (arith, sum_by-set (λ (l : Laned). l.failed) lanes i (opened (slice_index_or lanes i no_lane)) no_lane there)
      | inr past ↦ ap count_failed (set_past lanes i (opened (slice_index_or lanes i no_lane)) past)
    ]
count_handed queue now (Later at) = refl
count_handed queue now Busy = refl
count_handed queue now Nothing = refl

-- something is handed out
pub call_taken : (start queue : Queued) (kept list : List NoteMark) (f s now : ℕ) (taken : Taken) (stopped : Bool) → IsCall start queue kept list f s stopped
    → IsCall start (happens queue (Take now taken)) kept list f s stopped
call_taken start queue kept list f s now taken stopped call = record {
  made = call.made;
  list_is = call.list_is;
  fresh = call.fresh;
  unmarked = call.unmarked;
  order = call.order;
  failed = subst (λ (n : ℕ). limits_of start call.made + cond stopped 0 n ≤ f) (sym (count_handed queue now taken)) call.failed;
  done = call.done;
  agree = λ going. agrees_handed start queue call.made now taken (call.agree going);
}

-- a try ends: with a mark, which is kept or refused, or with none
pub record CallPasses (start new : Queued) (kept list : List NoteMark) (f s n : ℕ) (mark : Option Mark) : Type 0 where
  pub m : Mark
  pub is : mark ≡ Some m
  pub kept_so : IsCall start new kept (list ++ record { note = n; mark = m } ∷ []) f s false
  pub refused_so : IsCall start new kept list f s true

pub record CallRepeats (start new : Queued) (kept list : List NoteMark) (f s : ℕ) (mark : Option Mark) : Type 0 where
  pub is : mark ≡ None
  pub so : IsCall start new kept list f s false

pub call_ends : (start queue : Queued) (kept list : List NoteMark) (f s n : ℕ) (ok : Bool) (now : ℕ) (stopped : Bool) → stopped ≡ false → HasOpen queue n → IsCall start queue kept list f s stopped
    → CallPasses start (happens queue (End n ok now)) kept list (f + fails ok) (s + succeeds ok) n (mark_of (lane_at queue (home queue n)) ok)
    ⊎ CallRepeats start (happens queue (End n ok now)) kept list (f + fails ok) (s + succeeds ok) (mark_of (lane_at queue (home queue n)) ok)
call_ends start queue kept list f s n ok now stopped going may call = elim (ends_so lane ok (moved queue now).now) [
  | inl passed ↦
      let m = passed.0 in
      let passes = passed.1 in
      let mark : NoteMark = record { note = n; mark = m } in
      let limit : (lane_at start (home start n)).limit ≡ lane.limit =
      ap (λ (k : ℕ). (lane_at start k).limit) (ap (λ (hs : List ℕ). home_in hs n) (sym agrees.homes)) ∙ sym (agrees.limits (home queue n)) in
      let one : failures_of start mark ≡ failing m lane.limit = ap (failing m) limit in
      let passed_so : Agrees start (happens queue (End n ok now)) (call.made ++ mark ∷ []) = agrees_passed start queue call.made n ok now may agrees m passes in
      inl (record {
        m = m;
        is = passes.is;
        kept_so = record {
          made = call.made ++ mark ∷ [];
          list_is = ap (λ (l : List NoteMark). l ++ mark ∷ []) call.list_is ∙ append_assoc kept call.made (mark ∷ []);
          fresh = call.fresh;
          unmarked = call.unmarked;
          order = order_of start (happens queue (End n ok now)) (call.made ++ mark ∷ []) (All-push (IsKnown start) call.made mark call.order.each (known_of start queue call.made n m agrees may)) passed_so;
          failed = omega (arith, sum_by-append (failures_of start) call.made (mark ∷ []), one, passes.fails_are, counted, passes.failed, before);
          done = omega (arith, sum_by-append (λ (x : NoteMark). done_of x.mark) call.made (mark ∷ []), passes.done_are, call.done);
          agree = λ still. passed_so;
        };
        refused_so = record {
          made = call.made;
          list_is = call.list_is;
          fresh = call.fresh;
          unmarked = call.unmarked;
          order = call.order;
          failed = omega (arith, before);
          done = omega (arith, call.done);
          agree = λ still. absurd (true≢false still);
        };
      })
  | inr repeats ↦
      inr (record {
        is = repeats.is;
        so = record {
          made = call.made;
          list_is = call.list_is;
          fresh = call.fresh;
          unmarked = call.unmarked;
          order = call.order;
          failed = omega (arith, counted, repeats.failed, before);
          done = omega (arith, call.done);
          agree = λ still. agrees_repeated start queue call.made n ok now may agrees repeats;
        };
      })
]
  where
    lane : Laned
    lane = lane_at queue (home queue n)

    agrees : Agrees start queue call.made
    agrees = call.agree going

    before : limits_of start call.made + count_failed queue.lanes ≤ f
    before = subst (λ (b : Bool). limits_of start call.made + cond b 0 (count_failed queue.lanes) ≤ f) going call.failed

    counted : count_failed (happens queue (End n ok now)).lanes + lane.failed ≡ count_failed queue.lanes + (settled lane ok (moved queue now).now).failed
    counted = sum_by-set (λ (l : Laned). l.failed) queue.lanes (home queue n) (settled lane ok (moved queue now).now) no_lane may.first.there

-- at the beginning
none_failed : (lanes : List Laned) → ((r : ℕ) → r < length lanes → (slice_index_or lanes r no_lane).failed ≡ 0) → count_failed lanes ≡ 0
none_failed [] each = refl
none_failed (lane ∷ lanes) each =
    omega (arith, sum_by-cons (λ (l : Laned). l.failed) lane lanes, each zero (omega arith), none_failed lanes (λ r inner. each (suc r) (omega arith)))

pub call_begins : (start : Queued) (kept : List NoteMark) (f s : ℕ) → AreFresh start → AreUnmarked start kept → IsCall start start kept kept f s false
call_begins start kept f s fresh unmarked = record {
  made = [];
  list_is = sym (append-nil kept);
  fresh = fresh;
  unmarked = unmarked;
  order = record { each = All-nil (IsKnown start); in_order = λ r inner. ((lane_at start r).left, refl) };
  failed = omega (arith, none_failed start.lanes (λ r inner. (fresh r inner).untried));
  done = omega arith;
  agree = λ going. record { homes = refl; size = refl; limits = λ r. refl; notes = λ r inner. refl };
}

-- at the end
empty : (l : List ℕ) → length l ≡ 0 → l ≡ []
empty [] e = refl
empty (x ∷ xs) e = absurd (omega arith)

over_marked : (start queue : Queued) (made : List NoteMark) → Agrees start queue made → IsOver queue → EachMarked start made
over_marked start queue made agrees over r inner =
    let none : (lane_at queue r).left ≡ [] = empty (lane_at queue r).left (over r (omega (arith, agrees.size))) in
    sym (append-nil (notes_of (marks_at start.homes r made))) ∙ ap (λ (l : List ℕ). notes_of (marks_at start.homes r made) ++ l) (sym none) ∙ agrees.notes r (omega (arith, agrees.size))

pub call_over : (start queue : Queued) (kept list : List NoteMark) (f s : ℕ) (stopped : Option AddError) → IsCall start queue kept list f s (is_some stopped)
    → ((is_some stopped ≡ true) ⊎ IsOver queue) → IsCallAtEnd start kept list f s (is_none stopped)
call_over start queue kept list f s None call over = record {
  made = call.made;
  list_is = call.list_is;
  order = call.order;
  failed = omega (arith, call.failed);
  done = call.done;
  marked = λ all. elim over [
    | inl was ↦ absurd (true≢false (sym was))
    | inr so ↦ over_marked start queue call.made (call.agree refl) so
  ];
}
call_over start queue kept list f s (Some error) call over = record {
  made = call.made;
  list_is = call.list_is;
  order = call.order;
  failed = omega (arith, call.failed);
  done = call.done;
  marked = λ all. absurd (true≢false (sym all));
}

-- what is over in one view
pub same_over : {D : Type 0} (one other : Stated D) → one ≡ other → (is_some other.stopped ≡ true) ⊎ IsOver other.queue → (is_some one.stopped ≡ true) ⊎ IsOver one.queue
same_over {D} one other same over = subst (λ (v : Stated D). (is_some v.stopped ≡ true) ⊎ IsOver v.queue) (sym same) over

-- what was handed out
pub call_took : (start queue later : Queued) (kept list : List NoteMark) (f s now : ℕ) (taken : Taken) (stopped : Bool) → IsCall start queue kept list f s stopped
    → later ≡ happens queue (Take now taken) → IsCall start later kept list f s stopped
call_took start queue later kept list f s now taken stopped call is =
    subst (λ (q : Queued). IsCall start q kept list f s stopped) (sym is) (call_taken start queue kept list f s now taken stopped call)

-- a call that is stopped
pub call_stops : (start queue : Queued) (kept list : List NoteMark) (f s : ℕ) (stopped : Bool) → IsCall start queue kept list f s stopped → IsCall start queue kept list f s true
call_stops start queue kept list f s stopped call = record {
  made = call.made;
  list_is = call.list_is;
  fresh = call.fresh;
  unmarked = call.unmarked;
  order = call.order;
  failed = omega (arith, call.failed);
  done = call.done;
  agree = λ still. absurd (true≢false still);
}

module _ (start queue new : Queued) (kept list : List NoteMark) (f s f' s' n : ℕ) (ok : Bool) (now : ℕ) (stopped : Bool) (mark : Option Mark)
    (going : stopped ≡ false) (may : HasOpen queue n) (call : IsCall start queue kept list f s stopped)
    (mark_is : mark ≡ mark_of (lane_at queue (home queue n)) ok) (new_is : new ≡ happens queue (End n ok now))
    (f_is : f' ≡ f + fails ok) (s_is : s' ≡ s + succeeds ok) where
  told : (list' : List NoteMark) (b : Bool) → IsCall start (happens queue (End n ok now)) kept list' (f + fails ok) (s + succeeds ok) b → IsCall start new kept list' f' s' b
  told list' b is =
      subst (λ (q : Queued). IsCall start q kept list' f' s' b) (sym new_is)
      (subst (λ (k : ℕ). IsCall start (happens queue (End n ok now)) kept list' k s' b) (sym f_is)
      (subst (λ (k : ℕ). IsCall start (happens queue (End n ok now)) kept list' (f + fails ok) k b) (sym s_is) is))

  -- no mark was made
  pub call_none : mark ≡ None → IsCall start new kept list f' s' stopped
  call_none none = elim (call_ends start queue kept list f s n ok now stopped going may call) [
    | inl passes ↦ absurd (let e = passes.is in cc)
    | inr repeats ↦ subst (IsCall start new kept list f' s') (sym going) (told list false repeats.so)
  ]

  -- a mark was made, and kept
  pub call_kept : (m : Mark) (list' : List NoteMark) → mark ≡ Some m → list' ≡ list ++ record { note = n; mark = m } ∷ [] → IsCall start new kept list' f' s' stopped
  call_kept m list' some list_is = elim (call_ends start queue kept list f s n ok now stopped going may call) [
    | inl passes ↦
        let e = passes.is in
        let same : passes.m ≡ m = cc in
        let list_so : list' ≡ list ++ record { note = n; mark = passes.m } ∷ [] = list_is ∙ ap (λ (k : Mark). list ++ record { note = n; mark = k } ∷ []) (sym same) in
        subst (IsCall start new kept list' f' s') (sym going)
        (subst (λ (l : List NoteMark). IsCall start new kept l f' s' false) (sym list_so) (told (list ++ record { note = n; mark = passes.m } ∷ []) false passes.kept_so))
    | inr repeats ↦ absurd (let e = repeats.is in cc)
  ]

  -- a mark was made, and refused
  pub call_refused : (m : Mark) (list' : List NoteMark) → mark ≡ Some m → list' ≡ list → IsCall start new kept list' f' s' true
  call_refused m list' some list_is = elim (call_ends start queue kept list f s n ok now stopped going may call) [
    | inl passes ↦ subst (λ (l : List NoteMark). IsCall start new kept l f' s' true) (sym list_is) (told list true passes.refused_so)
    | inr repeats ↦ absurd (let e = repeats.is in cc)
  ]
