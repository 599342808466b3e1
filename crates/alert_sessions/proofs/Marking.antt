-- A note that is tried has no mark.
use Rattle.std.proofs.Common.{◌≡◌, ◌≢◌, ◌<◌, ◌+◌, ℕ, zero, suc, ◌==◌, ◌||◌, Bool, true, false, List, [], ◌∷◌, ◌++◌, length, slice_index, refl, sym, ◌∙◌, ap, subst, inl, inr, arith, eq-eqb}
use Rattle.std.proofs.lemmas.Bool.{cases_eq, ne_eqb}
use Rattle.std.proofs.lemmas.List.{get_or_append_left, get_or-append-add, length-append}
use Rattle.std.proofs.lemmas.List.Folds.{list_any-append}
use Rattle.alert_queue.specs.Queues.{Queued, lane_at, home, home_in, HasOpen}
use Rattle.alert_queue.specs.Law.{marks_at, AreRising}
use Rattle.alert_queue.specs.declared.types.NoteMark.{NoteMark}
use Rattle.alert_marks.specs.Marks.{has_mark}
use Rattle.alert_sessions.specs.Calls.{notes_of, Agrees, IsCall}

-- a note is among some marks of other notes, or it is not
mark_cons : (m : NoteMark) (made : List NoteMark) (n : ℕ) → m.note ≢ n → has_mark (m ∷ made) n ≡ has_mark made n
mark_cons m made n other = let test : (m.note == n) ≡ false = ne_eqb m.note n other in rw test refl

-- a note of this recipient that is none of those that its marks are of has no mark
none_of : (homes : List ℕ) (r n : ℕ) (made : List NoteMark) → home_in homes n ≡ r
    → ((i : ℕ) → i < length (notes_of (marks_at homes r made)) → slice_index (notes_of (marks_at homes r made)) i ≢ n) → has_mark made n ≡ false
none_of homes r n [] here other = refl
none_of homes r n (m ∷ made) here other = elim (cases_eq (home_in homes m.note) r) [
  | inl at_home ↦
      let test : (home_in homes m.note == r) ≡ true = eq-eqb (home_in homes m.note) r at_home in
      let all : marks_at homes r (m ∷ made) ≡ m ∷ marks_at homes r made = rw test refl in
      let others : (i : ℕ) → i < length (notes_of (m ∷ marks_at homes r made)) → slice_index (notes_of (m ∷ marks_at homes r made)) i ≢ n =
      subst (λ (ms : List NoteMark). (i : ℕ) → i < length (notes_of ms) → slice_index (notes_of ms) i ≢ n) all other in
      mark_cons m made n (others zero (omega arith)) ∙ none_of homes r n made here (λ i inner. others (suc i) (omega (arith, inner)))
  | inr away ↦
      let test : (home_in homes m.note == r) ≡ false = ne_eqb (home_in homes m.note) r away in
      let all : marks_at homes r (m ∷ made) ≡ marks_at homes r made = rw test refl in
      mark_cons m made n (λ same. away (ap (home_in homes) same ∙ here))
      ∙ none_of homes r n made here (subst (λ (ms : List NoteMark). (i : ℕ) → i < length (notes_of ms) → slice_index (notes_of ms) i ≢ n) all other)
]

-- the first of what is left stands behind the front, and differs from each note there
module _ (front left all : List ℕ) (whole : front ++ left ≡ all) (some : 0 < length left) where
  stands : slice_index all (length front) ≡ slice_index left 0
  stands =
      let place : length front + 0 ≡ length front = omega arith in
      subst (λ (l : List ℕ). slice_index l (length front) ≡ slice_index left 0) whole
      (subst (λ (k : ℕ). slice_index (front ++ left) k ≡ slice_index left 0) place (get_or-append-add front left 0 0))

  inside : length front < length all
  inside = omega (arith, ap length whole, length-append front left, some)

  differs : AreRising all → (i : ℕ) → i < length front → slice_index front i ≢ slice_index left 0
  differs rising i before same =
      let at_front : slice_index all i ≡ slice_index front i = subst (λ (l : List ℕ). slice_index l i ≡ slice_index front i) whole (get_or_append_left front left 0 i before) in
      absurd (omega (arith, rising i (length front) before inside, at_front, stands, same))

pub free_note : (start queue : Queued) (kept list : List NoteMark) (f s n : ℕ) (stopped : Bool) → IsCall start queue kept list f s stopped → stopped ≡ false → HasOpen queue n → has_mark list n ≡ false
free_note start queue kept list f s n stopped call going may =
    ap (λ (ms : List NoteMark). has_mark ms n) call.list_is ∙ list_any-append (λ (m : NoteMark). m.note == n) kept call.made ∙ ap (λ (b : Bool). b || has_mark call.made n) before ∙ after
  where
    r : ℕ
    r = home queue n

    agrees : Agrees start queue call.made
    agrees = call.agree going

    there : r < length start.lanes
    there = omega (arith, may.first.there, agrees.size)

    whole : notes_of (marks_at start.homes r call.made) ++ (lane_at queue r).left ≡ (lane_at start r).left
    whole = agrees.notes r may.first.there

    here : home_in start.homes n ≡ r
    here = ap (λ (hs : List ℕ). home_in hs n) (sym agrees.homes)

    place : ℕ
    place = length (notes_of (marks_at start.homes r call.made))

    before : has_mark kept n ≡ false
    before =
        let is : slice_index (lane_at start r).left place ≡ n = stands (notes_of (marks_at start.homes r call.made)) (lane_at queue r).left (lane_at start r).left whole may.tried.some ∙ may.first.first in
        subst (λ (k : ℕ). has_mark kept k ≡ false) is (call.unmarked r place there (inside (notes_of (marks_at start.homes r call.made)) (lane_at queue r).left (lane_at start r).left whole may.tried.some))

    after : has_mark call.made n ≡ false
    after = none_of start.homes r n call.made here
        (λ i inner. subst (λ (k : ℕ). slice_index (notes_of (marks_at start.homes r call.made)) i ≢ k) may.first.first
        (differs (notes_of (marks_at start.homes r call.made)) (lane_at queue r).left (lane_at start r).left whole may.tried.some (call.fresh r there).rising i inner))
