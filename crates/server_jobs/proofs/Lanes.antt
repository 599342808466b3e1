-- One recipient's tries go on.
use Rattle.std.proofs.Common.{◌≡◌, ◌∙◌, inl, inr, ℕ, suc, ◌+◌, ◌-◌, ◌*◌, ◌<◌, ◌==◌, min, Bool, true, false, cond, List, [], ◌∷◌, ◌++◌, length, map, drop, replicate, slice_index, Some, None, refl, sym, ap, arith, eq-eqb, append_assoc, append-nil}
use Rattle.std.proofs.lemmas.Bool.{cases_eq, ne_eqb}
use Rattle.std.proofs.lemmas.List.{map-append}
use Rattle.std.proofs.Math.Nat.{mul-suc}
use Rattle.alert_queue.specs.Lanes.{Laned, greatest, first_of, opened, mark_of as mark_at, settled}
use Rattle.alert_queue.specs.Events.{marked}
use Rattle.alert_queue.specs.Law.{AreRising}
use Rattle.alert_queue.specs.declared.types.Mark.{Mark}
use Rattle.alert_queue.specs.declared.types.Mark.TheVariants.{Done, Failed}
use Rattle.alert_queue.specs.declared.types.NoteMark.{NoteMark}
use Rattle.server_jobs.specs.Tries.{Attempt, Tried, EndsAt, AreWhole, mark_of, failing, tries_of, all_tries, first_tries, AreInOrder}
use Rattle.server_jobs.specs.Turning.{weigh_lane}
use Rattle.server_jobs.proofs.Runs.{replicate_push}

-- what became of a recipient's notes, with this limit: a lane has those that are left
pub record LaneTried (limit : ℕ) (notes : List ℕ) (lane : Laned) (tries : List Attempt) (made : List NoteMark) : Type 0 where
  pub done : List Tried
  pub notes_are : notes ≡ map (λ (tried : Tried). tried.note) done ++ lane.left
  pub limit_is : lane.limit ≡ limit
  pub whole : AreWhole limit done
  pub fewer : lane.failed < limit
  pub tries_are : tries ≡ all_tries done ++ first_tries lane.left lane.failed
  pub made_is : made ≡ map mark_of done
  pub rising : AreRising lane.left

pub in_order : (limit : ℕ) (notes : List ℕ) (lane : Laned) (tries : List Attempt) (made : List NoteMark) → LaneTried limit notes lane tries made → AreInOrder limit notes tries made
in_order limit notes lane tries made t = record {
  done = t.done;
  left = lane.left;
  failed = lane.failed;
  notes_are = t.notes_are;
  whole = t.whole;
  fewer = t.fewer;
  tries_are = t.tries_are;
  made_is = t.made_is;
}

none_first : (left : List ℕ) → first_tries left 0 ≡ []
none_first [] = refl
none_first (n ∷ left) = refl

pub lane_fresh : (lane : Laned) → lane.failed ≡ 0 → 0 < lane.limit → AreRising lane.left → LaneTried lane.limit lane.left lane [] []
lane_fresh lane untried limited rising = record {
  done = [];
  notes_are = refl;
  limit_is = refl;
  whole = tt;
  fewer = omega (arith, untried, limited);
  tries_are = sym (none_first lane.left) ∙ ap (first_tries lane.left) (sym untried);
  made_is = refl;
  rising = rising;
}

-- a try begins
pub lane_opened : (limit : ℕ) (notes : List ℕ) (lane : Laned) (tries : List Attempt) (made : List NoteMark) → LaneTried limit notes lane tries made → LaneTried limit notes (opened lane) tries made
lane_opened limit notes lane tries made t = record {
  done = t.done;
  notes_are = t.notes_are;
  limit_is = t.limit_is;
  whole = t.whole;
  fewer = t.fewer;
  tries_are = t.tries_are;
  made_is = t.made_is;
  rising = t.rising;
}

whole_push : (limit : ℕ) (done : List Tried) (t : Tried) → AreWhole limit done → EndsAt limit t.failed t.succeeds → AreWhole limit (done ++ t ∷ [])
whole_push limit [] t all one = (one, tt)
whole_push limit (s ∷ done) t all one = (all.0, whole_push limit done t all.1 one)

tries_push : (done : List Tried) (t : Tried) → all_tries (done ++ t ∷ []) ≡ all_tries done ++ tries_of t
tries_push [] t = append-nil (tries_of t)
tries_push (s ∷ done) t = ap (λ (l : List Attempt). tries_of s ++ l) (tries_push done t) ∙ sym (append_assoc (tries_of s) (all_tries done) (tries_of t))

rising_rest : (n : ℕ) (rest : List ℕ) → AreRising (n ∷ rest) → AreRising rest
rising_rest n rest rising i j less high = rising (suc i) (suc j) (omega arith) (omega arith)

module _ (limit : ℕ) (notes : List ℕ) (n : ℕ) (rest : List ℕ) (failed l interval : ℕ) (is_open : Bool) (due : ℕ) (tries : List Attempt) (made : List NoteMark) where
  abbrev lane : Laned
  lane = record { left = n ∷ rest; failed = failed; limit = l; interval = interval; is_open = is_open; due = due }

  module _ (t : LaneTried limit notes lane tries made) (ok : Bool) where
    -- the note was done with
    passed : (one : Tried) (mark : Mark) → one.note ≡ n → EndsAt limit one.failed one.succeeds → tries_of one ≡ replicate failed (failing n) ++ record { note = n; ok = ok } ∷ []
        → mark_of one ≡ record { note = n; mark = mark }
        → LaneTried limit notes (record { left = rest; failed = 0; limit = l; interval = interval; is_open = false; due = 0 }) (tries ++ record { note = n; ok = ok } ∷ []) (made ++ record { note = n; mark = mark } ∷ [])
    passed one mark note_is ends runs mark_is =
        let last : List Attempt = record { note = n; ok = ok } ∷ [] in
        let numbers = map (λ (tried : Tried). tried.note) t.done in
        record {
          done = t.done ++ one ∷ [];
          notes_are = t.notes_are ∙ ap (λ (k : ℕ). numbers ++ k ∷ rest) (sym note_is) ∙ sym (append_assoc numbers (one.note ∷ []) rest)
              ∙ ap (λ (ns : List ℕ). ns ++ rest) (sym (map-append (λ (tried : Tried). tried.note) t.done (one ∷ [])));
          limit_is = t.limit_is;
          whole = whole_push limit t.done one t.whole ends;
          fewer = omega (arith, t.fewer);
          tries_are = ap (λ (l : List Attempt). l ++ last) t.tries_are ∙ append_assoc (all_tries t.done) (replicate failed (failing n)) last
              ∙ ap (λ (l : List Attempt). all_tries t.done ++ l) (sym runs) ∙ sym (tries_push t.done one)
              ∙ sym (append-nil (all_tries (t.done ++ one ∷ []))) ∙ ap (λ (l : List Attempt). all_tries (t.done ++ one ∷ []) ++ l) (sym (none_first rest));
          made_is = ap (λ (ms : List NoteMark). ms ++ record { note = n; mark = mark } ∷ []) t.made_is ∙ ap (λ (m : NoteMark). map mark_of t.done ++ m ∷ []) (sym mark_is)
              ∙ sym (map-append mark_of t.done (one ∷ []));
          rising = rising_rest n rest t.rising;
        }

  settled_parts : (ok : Bool) (now : ℕ) → LaneTried limit notes lane tries made
      → LaneTried limit notes (settled lane ok now) (tries ++ record { note = n; ok = ok } ∷ []) (made ++ marked n (mark_at lane ok))
  settled_parts true now t = passed t true (record { note = n; failed = failed; succeeds = true }) Done refl t.fewer refl refl
  settled_parts false now t = elim (cases_eq (failed + 1) l) [
    | inl last ↦
        let test : (failed + 1 == l) ≡ true = eq-eqb (failed + 1) l last in
        let all : failed + 1 ≡ limit = last ∙ t.limit_is in
        rw test (passed t false (record { note = n; failed = failed + 1; succeeds = false }) Failed refl all
        (append-nil (replicate (failed + 1) (failing n)) ∙ sym (replicate_push failed (failing n))) refl)
    | inr more ↦
        let test : (failed + 1 == l) ≡ false = ne_eqb (failed + 1) l more in
        let again : LaneTried limit notes (record { left = n ∷ rest; failed = failed + 1; limit = l; interval = interval; is_open = false; due = min (now + interval * 1000000000) greatest })
        (tries ++ record { note = n; ok = false } ∷ []) (made ++ []) = record {
          done = t.done;
          notes_are = t.notes_are;
          limit_is = t.limit_is;
          whole = t.whole;
          fewer = omega (arith, t.fewer, more, t.limit_is);
          tries_are = ap (λ (l : List Attempt). l ++ failing n ∷ []) t.tries_are ∙ append_assoc (all_tries t.done) (replicate failed (failing n)) (failing n ∷ [])
              ∙ ap (λ (l : List Attempt). all_tries t.done ++ l) (replicate_push failed (failing n));
          made_is = append-nil made ∙ t.made_is;
          rising = t.rising;
        } in
        rw test again
  ]

-- a try ends
pub lane_settled : (limit : ℕ) (notes : List ℕ) (lane : Laned) (tries : List Attempt) (made : List NoteMark) (ok : Bool) (now : ℕ) → 0 < length lane.left → LaneTried limit notes lane tries made
    → LaneTried limit notes (settled lane ok now) (tries ++ record { note = first_of lane; ok = ok } ∷ []) (made ++ marked (first_of lane) (mark_at lane ok))
lane_settled limit notes lane tries made ok now some t = go lane.left lane.failed lane.limit lane.interval lane.is_open lane.due some t
  where
    go : (left : List ℕ) (failed l interval : ℕ) (is_open : Bool) (due : ℕ) → 0 < length left
        → LaneTried limit notes (record { left = left; failed = failed; limit = l; interval = interval; is_open = is_open; due = due }) tries made
        → LaneTried limit notes (settled (record { left = left; failed = failed; limit = l; interval = interval; is_open = is_open; due = due }) ok now)
        (tries ++ record { note = slice_index left 0; ok = ok } ∷ [])
        (made ++ marked (slice_index left 0) (mark_at (record { left = left; failed = failed; limit = l; interval = interval; is_open = is_open; due = due }) ok))
    go [] failed l interval is_open due some t = absurd (omega arith)
    go (n ∷ rest) failed l interval is_open due some t = settled_parts limit notes n rest failed l interval is_open due tries made ok now t

-- what is left behind a try: all, or all but the first where the note has its mark
pub record LeftBy (lane : Laned) (ok : Bool) (now : ℕ) : Type 0 where
  pub none : mark_at lane ok ≡ None → (settled lane ok now).left ≡ lane.left
  pub one : (mark : Mark) → mark_at lane ok ≡ Some mark → (settled lane ok now).left ≡ drop 1 lane.left
  pub closed : (settled lane ok now).is_open ≡ false

pub left_by : (lane : Laned) (ok : Bool) (now : ℕ) → LeftBy lane ok now
left_by lane true now = record { none = λ is. cc; one = λ mark is. refl; closed = refl }
left_by lane false now = elim (cases_eq (lane.failed + 1) lane.limit) [
  | inl last ↦
      let test : (lane.failed + 1 == lane.limit) ≡ true = eq-eqb (lane.failed + 1) lane.limit last in
      record { none = λ is. absurd (no (ap (λ (b : Bool). cond b (Some Failed) None) (sym test) ∙ is)); one = λ mark is. rw test refl; closed = rw test refl }
  | inr more ↦
      let test : (lane.failed + 1 == lane.limit) ≡ false = ne_eqb (lane.failed + 1) lane.limit more in
      record { none = λ is. rw test refl; one = λ mark is. absurd (never mark (ap (λ (b : Bool). cond b (Some Failed) None) (sym test) ∙ is)); closed = rw test refl }
]
  where
    no : Some Failed ≡ None → ⊥
    no e = cc

    never : (mark : Mark) → None ≡ Some mark → ⊥
    never mark e = cc

again : (k limit failed : ℕ) → failed < limit → limit * suc k - (failed + 1) < limit * suc k - failed
again k limit failed fewer = let wide : limit * suc k ≡ limit * k + limit = mul-suc limit k in omega (arith, fewer, wide)

passes : (k limit failed : ℕ) → failed < limit → limit * k - 0 < limit * suc k - failed
passes k limit failed fewer = let wide : limit * suc k ≡ limit * k + limit = mul-suc limit k in omega (arith, fewer, wide)

-- less is left to be tried
pub lane_lighter : (lane : Laned) (ok : Bool) (now : ℕ) → 0 < length lane.left → lane.failed < lane.limit → weigh_lane (settled lane ok now) < weigh_lane lane
lane_lighter lane ok now some fewer = go lane.left lane.failed lane.limit lane.interval lane.is_open lane.due ok some fewer
  where
    go : (left : List ℕ) (failed limit interval : ℕ) (is_open : Bool) (due : ℕ) (ok : Bool) → 0 < length left → failed < limit
        → weigh_lane (settled (record { left = left; failed = failed; limit = limit; interval = interval; is_open = is_open; due = due }) ok now)
        < weigh_lane (record { left = left; failed = failed; limit = limit; interval = interval; is_open = is_open; due = due })
    go [] failed limit interval is_open due ok some fewer = absurd (omega arith)
    go (n ∷ rest) failed limit interval is_open due true some fewer = passes (length rest) limit failed fewer
    go (n ∷ rest) failed limit interval is_open due false some fewer = elim (cases_eq (failed + 1) limit) [
      | inl last ↦ let test : (failed + 1 == limit) ≡ true = eq-eqb (failed + 1) limit last in rw test (passes (length rest) limit failed fewer)
      | inr more ↦ let test : (failed + 1 == limit) ≡ false = ne_eqb (failed + 1) limit more in rw test (again (length rest) limit failed fewer)
    ]
