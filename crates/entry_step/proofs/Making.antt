-- The order of making is the order of the records.
use Rattle.std.proofs.Common.{◌≡◌, ℕ, ◌<◌, ◌≤◌, ◌==◌, Bool, true, false, cond, not, ◌&&◌, ◌⊎◌, inl, inr, List, [], ◌∷◌, ◌++◌, filter, refl, sym, ◌∙◌, ap, subst, append-nil, eqb-true, eq-eqb, ne_eqb, arith}
use mathlib.Core.Path.{fun_ext}
use Rattle.std.specs.Prelude.{flat_map}
use Rattle.std.specs.List.{list_any}
use Rattle.zbx_types.specs.declared.entries.EventId.{EventId}
use Rattle.zbx_types.specs.declared.entries.Rec.{Rec}
use Rattle.zbx_types.specs.declared.entries.Rec.TheVariants.{Failure, Problem, Recovery, Step, Message}
use Rattle.trigger_state.specs.Stages.{Stage, home, rank_of}
use Rattle.trigger_state.specs.Problems.{event_in, recovers, opened, open_of}
use Rattle.trigger_state.specs.declared.problems.Open.{Open}
use Rattle.entry_step.specs.Each.{Each, In, EachPair}
use Rattle.entry_step.specs.Due.{by_making}
use Rattle.entry_step.specs.Making.{open_any, IsAsRecorded}
use Rattle.entry_step.specs.Order.{sorted_by, by_event}
use Rattle.conf_index.specs.Order.{order}
use Rattle.entry_step.proofs.Members.{each_both, each_filter, each_from, each_kept, each_sub, filter-append, filter_none, flat_map_cong}
use Rattle.entry_step.proofs.Sorting.{Rises, sorted_rises, filter_sorted, unique, filter_by}

-- lists and tests
pub pairs_filter : {A : Type 0} (R : A → A → Type 0) (p : A → Bool) (xs : List A) → EachPair R xs → EachPair R (filter p xs)
pairs_filter R p [] e = tt
pairs_filter {A} R p (x ∷ xs) e = go (p x) (pairs_filter R p xs e.1)
  where
    go : (b : Bool) → EachPair R (filter p xs) → EachPair R (cond b (x ∷ filter p xs) (filter p xs))
    go true ih = (each_kept (R x) p xs e.0, ih)
    go false ih = ih

filter_if : {A : Type 0} (p : A → Bool) (x : A) (xs : List A) (b : Bool) → filter p (cond b (x ∷ xs) xs) ≡ cond b (cond (p x) (x ∷ filter p xs) (filter p xs)) (filter p xs)
filter_if p x xs true = refl
filter_if p x xs false = refl

filter_swap : {A : Type 0} (p q : A → Bool) (xs : List A) → filter p (filter q xs) ≡ filter q (filter p xs)
filter_swap p q [] = refl
filter_swap {A} p q (x ∷ xs) =
    filter_if p x (filter q xs) (q x) ∙ swap (p x) (q x) (filter p (filter q xs)) (filter q (filter p xs)) (filter_swap p q xs) ∙ sym (filter_if q x (filter p xs) (p x))
  where
    swap : (b c : Bool) (ys zs : List A) → ys ≡ zs → cond c (cond b (x ∷ ys) ys) ys ≡ cond b (cond c (x ∷ zs) zs) zs
    swap true true ys zs e = ap (λ ws. x ∷ ws) e
    swap true false ys zs e = e
    swap false true ys zs e = e
    swap false false ys zs e = e

-- an event is made before another one: by number, by rank, by trigger
abbrev pub Precedes : Stage → EventId → EventId → Type 0
Precedes stage v w =
    (v.number < w.number) ⊎ ((v.number ≡ w.number) × ((rank_of stage v < rank_of stage w) ⊎ ((rank_of stage v ≡ rank_of stage w) × (v.trigger < w.trigger))))

module _ {A : Type 0} (stage : Stage) (event : A → EventId) where
  abbrev n : A → ℕ
  n x = (event x).number

  abbrev k : A → ℕ
  k x = rank_of stage (event x)

  abbrev t : A → ℕ
  t x = (event x).trigger

  abbrev Before : A → A → Type 0
  Before a b = Precedes stage (event a) (event b)

  abbrev same_number : A → A → Bool
  same_number x y = n y == n x

  abbrev same_rank : A → A → Bool
  same_rank x y = k y == k x

  abbrev same_trigger : A → A → Bool
  same_trigger x y = t y == t x

  rise_number : (xs : List A) → EachPair Before xs → Rises n xs
  rise_number [] e = tt
  rise_number (x ∷ xs) e = (each_sub (Before x) (λ y. n x ≤ n y) xs one e.0, rise_number xs e.1)
    where
      one : (y : A) → Before x y → n x ≤ n y
      one y (inl l) = omega arith
      one y (inr r) = let q = r.0 in omega arith

  -- those of one number
  rise_rank : (x : A) (xs : List A) → Each (λ y. same_number x y ≡ true) xs → EachPair Before xs → Rises k xs
  rise_rank x [] s e = tt
  rise_rank x (y ∷ ys) s e = (each_sub (λ z. Before y z × (same_number x z ≡ true)) (λ z. k y ≤ k z) ys one (each_both (Before y) (λ z. same_number x z ≡ true) ys e.0 s.1), rise_rank x ys s.1 e.1)
    where
      one : (z : A) → Before y z × (same_number x z ≡ true) → k y ≤ k z
      one z b = go b.0
        where
          here : n y ≡ n z
          here = eqb-true (n y) (n x) s.0 ∙ sym (eqb-true (n z) (n x) b.1)

          go : Before y z → k y ≤ k z
          go (inl l) = let q = here in absurd (omega arith)
          go (inr (q, inl l)) = omega arith
          go (inr (q, inr r)) = let m = r.0 in omega arith

  -- and of one rank
  rise_trigger : (x w : A) (xs : List A) → Each (λ y. same_number x y ≡ true) xs → Each (λ y. same_rank w y ≡ true) xs → EachPair Before xs → Rises t xs
  rise_trigger x w [] s r e = tt
  rise_trigger x w (y ∷ ys) s r e = (
    each_sub (λ z. Before y z × ((same_number x z ≡ true) × (same_rank w z ≡ true))) (λ z. t y ≤ t z) ys one
        (each_both (Before y) (λ z. (same_number x z ≡ true) × (same_rank w z ≡ true)) ys e.0 (each_both (λ z. same_number x z ≡ true) (λ z. same_rank w z ≡ true) ys s.1 r.1)),
    rise_trigger x w ys s.1 r.1 e.1,
  )
    where
      one : (z : A) → Before y z × ((same_number x z ≡ true) × (same_rank w z ≡ true)) → t y ≤ t z
      one z b = go b.0
        where
          numbers : n y ≡ n z
          numbers = eqb-true (n y) (n x) s.0 ∙ sym (eqb-true (n z) (n x) (b.1).0)

          ranks : k y ≡ k z
          ranks = eqb-true (k y) (k w) r.0 ∙ sym (eqb-true (k z) (k w) (b.1).1)

          go : Before y z → t y ≤ t z
          go (inl l) = let q = numbers in absurd (omega arith)
          go (inr (q, inl l)) = let m = ranks in absurd (omega arith)
          go (inr (q, inr m)) = let l = m.1 in omega arith

  -- a list in which each event precedes those behind it is what any other one is in the order of making that has the same
  -- of each trigger
  pub ordered_is : (ys xs : List A) → EachPair Before xs → ((x : A) → filter (same_trigger x) ys ≡ filter (same_trigger x) xs) → by_event stage event ys ≡ xs
  ordered_is ys xs e h = unique n (by_event stage event ys) xs (sorted_rises n (sorted_by k (sorted_by t ys))) (rise_number xs e) one
    where
      one : (x : A) → filter (same_number x) (by_event stage event ys) ≡ filter (same_number x) xs
      one x =
          filter_sorted n x (sorted_by k (sorted_by t ys)) ∙ filter_by k (same_number x) (sorted_by t ys) ∙ ap (sorted_by k) (filter_by t (same_number x) ys)
          ∙ unique k (sorted_by k (sorted_by t mine)) others (sorted_rises k (sorted_by t mine)) (rise_rank x others numbers pairs) two
        where
          mine : List A
          mine = filter (same_number x) ys

          others : List A
          others = filter (same_number x) xs

          numbers : Each (λ y. same_number x y ≡ true) others
          numbers = each_filter (λ y. same_number x y ≡ true) (same_number x) xs (λ y i q. q)

          pairs : EachPair Before others
          pairs = pairs_filter Before (same_number x) xs e

          two : (w : A) → filter (same_rank w) (sorted_by k (sorted_by t mine)) ≡ filter (same_rank w) others
          two w =
              filter_sorted k w (sorted_by t mine) ∙ filter_by t (same_rank w) mine
              ∙ unique t (sorted_by t (filter (same_rank w) mine)) (filter (same_rank w) others) (sorted_rises t (filter (same_rank w) mine))
              (rise_trigger x w (filter (same_rank w) others) (each_kept (λ y. same_number x y ≡ true) (same_rank w) others numbers) (each_filter (λ y. same_rank w y ≡ true) (same_rank w) others (λ y i q. q)) (pairs_filter Before (same_rank w) others pairs)) three
            where
              at : (z : A) (zs : List A) → filter (same_trigger z) (filter (same_rank w) (filter (same_number x) zs)) ≡ filter (same_rank w) (filter (same_number x) (filter (same_trigger z) zs))
              at z zs = filter_swap (same_trigger z) (same_rank w) (filter (same_number x) zs) ∙ ap (filter (same_rank w)) (filter_swap (same_trigger z) (same_number x) zs)

              three : (z : A) → filter (same_trigger z) (sorted_by t (filter (same_rank w) mine)) ≡ filter (same_trigger z) (filter (same_rank w) others)
              three z =
                  filter_sorted t z (filter (same_rank w) mine) ∙ at z ys
                  ∙ ap (λ zs. filter (same_rank w) (filter (same_number x) zs)) (h z) ∙ sym (at z xs)

-- Lists that are made of what items of a list have one number
abbrev pub Once : List ℕ → Type 0
Once [] = Unit {0}
Once (x ∷ xs) = (In x xs → ⊥) × Once xs

module _ {A : Type 0} (t : A → ℕ) (xs : List A) where
  abbrev part : ℕ → List A
  part id = filter (λ y. t y == id) xs

  other_part : (i id : ℕ) → (i ≡ id → ⊥) → filter (λ y. t y == i) (part id) ≡ []
  other_part i id ne =
      filter_none (λ y. t y == i) (part id)
      (each_filter (λ y. (t y == i) ≡ false) (λ y. t y == id) xs (λ y j q. ne_eqb (t y) i (λ p. ne (sym p ∙ eqb-true (t y) id q))))

  own_part : (i : ℕ) → filter (λ y. t y == i) (part i) ≡ part i
  own_part i = kept xs
    where
      kept : (ys : List A) → filter (λ y. t y == i) (filter (λ y. t y == i) ys) ≡ filter (λ y. t y == i) ys
      kept [] = refl
      kept (y ∷ ys) = go (t y == i) refl (kept ys)
        where
          go : (b : Bool) → (t y == i) ≡ b → filter (λ z. t z == i) (filter (λ z. t z == i) ys) ≡ filter (λ z. t z == i) ys
              → filter (λ z. t z == i) (cond b (y ∷ filter (λ z. t z == i) ys) (filter (λ z. t z == i) ys)) ≡ cond b (y ∷ filter (λ z. t z == i) ys) (filter (λ z. t z == i) ys)
          go true q ih = rw q (ap (λ zs. y ∷ zs) ih)
          go false q ih = ih

  absent : (i : ℕ) (ids : List ℕ) → (In i ids → ⊥) → filter (λ y. t y == i) (flat_map part ids) ≡ []
  absent i [] out = refl
  absent i (id ∷ ids) out =
      filter-append (λ y. t y == i) (part id) (flat_map part ids) ∙ ap (λ zs. zs ++ filter (λ y. t y == i) (flat_map part ids)) (other_part i id (λ q. out (inl q))) ∙ absent i ids (λ j. out (inr j))

  there : (i : ℕ) (ids : List ℕ) → Once ids → In i ids → filter (λ y. t y == i) (flat_map part ids) ≡ part i
  there i [] once j = absurd j
  there i (id ∷ ids) once (inl q) =
      filter-append (λ y. t y == i) (part id) (flat_map part ids)
      ∙ ap (λ zs. filter (λ y. t y == i) (part id) ++ zs) (absent i ids (λ j. once.0 (subst (λ x. In x ids) q j)))
      ∙ append-nil (filter (λ y. t y == i) (part id)) ∙ ap (λ x. filter (λ y. t y == i) (part x)) (sym q) ∙ own_part i
  there i (id ∷ ids) once (inr j) =
      filter-append (λ y. t y == i) (part id) (flat_map part ids)
      ∙ ap (λ zs. zs ++ filter (λ y. t y == i) (flat_map part ids)) (other_part i id (λ q. once.0 (subst (λ x. In x ids) q j))) ∙ there i ids once.1 j

  find : (i : ℕ) (ids : List ℕ) → In i ids ⊎ (In i ids → ⊥)
  find i [] = inr (λ j. j)
  find i (id ∷ ids) = go (i == id) refl (find i ids)
    where
      go : (b : Bool) → (i == id) ≡ b → In i ids ⊎ (In i ids → ⊥) → In i (id ∷ ids) ⊎ (In i (id ∷ ids) → ⊥)
      go true q f = inl (inl (eqb-true i id q))
      go false q (inl j) = inl (inr j)
      go false q (inr out) = inr not_in
        where
          not_in : In i (id ∷ ids) → ⊥
          not_in (inl p) = let r : (i == id) ≡ true = eq-eqb i id p in cc
          not_in (inr j) = out j

  -- of a list whose numbers are all there, it has the same of each
  pub parts_are : (ids : List ℕ) → Once ids → Each (λ y. In (t y) ids) xs → (i : ℕ) → filter (λ y. t y == i) (flat_map part ids) ≡ filter (λ y. t y == i) xs
  parts_are ids once all i = go (find i ids)
    where
      go : In i ids ⊎ (In i ids → ⊥) → filter (λ y. t y == i) (flat_map part ids) ≡ filter (λ y. t y == i) xs
      go (inl j) = there i ids once j
      go (inr out) = absent i ids out ∙ sym (filter_none (λ y. t y == i) xs (each_sub (λ y. In (t y) ids) (λ y. (t y == i) ≡ false) xs (λ y j. ne_eqb (t y) i (λ p. out (subst (λ x. In x ids) p j))) all))

-- The open problems of a trigger are those of all that are its own
pub open_part : (stage : Stage) (rs : List Rec) (id : ℕ) → open_of stage rs id ≡ filter (λ o. home stage (event_in o) == id) (open_any stage rs)
open_part stage [] id = refl
open_part stage (Problem event now severity suppressed host trigger name tags ∷ rs) id = go (home stage event == id) refl (not (list_any (recovers event) rs)) (open_part stage rs id)
  where
    one : Open
    one = opened stage (Problem event now severity suppressed host trigger name tags) rs

    go : (a : Bool) → (home stage event == id) ≡ a → (b : Bool) → open_of stage rs id ≡ filter (λ o. home stage (event_in o) == id) (open_any stage rs)
        → cond (a && b) (one ∷ open_of stage rs id) (open_of stage rs id) ≡ filter (λ o. home stage (event_in o) == id) (cond b (one ∷ open_any stage rs) (open_any stage rs))
    go true q true ih = rw q (ap (λ os. one ∷ os) ih)
    go true q false ih = ih
    go false q true ih = rw q ih
    go false q false ih = ih
open_part stage (Failure number host key why ∷ rs) id = open_part stage rs id
open_part stage (Recovery event by now cause ∷ rs) id = open_part stage rs id
open_part stage (Step event action step now ∷ rs) id = open_part stage rs id
open_part stage (Message event action step recipient subject body ∷ rs) id = open_part stage rs id

-- what holds of the event of each Problem record
abbrev pub OfProblem : (EventId → Type 0) → Rec → Type 0
OfProblem P (Problem event now severity suppressed host trigger name tags) = P event
OfProblem P (Failure number host key why) = Unit {0}
OfProblem P (Recovery event by now cause) = Unit {0}
OfProblem P (Step event action step now) = Unit {0}
OfProblem P (Message event action step recipient subject body) = Unit {0}

pub open_each : (P : EventId → Type 0) (stage : Stage) (rs : List Rec) → Each (OfProblem P) rs → Each (λ o. P (event_in o)) (open_any stage rs)
open_each P stage [] e = tt
open_each P stage (Problem event now severity suppressed host trigger name tags ∷ rs) e = go (not (list_any (recovers event) rs)) (open_each P stage rs e.1)
  where
    go : (b : Bool) → Each (λ o. P (event_in o)) (open_any stage rs)
        → Each (λ o. P (event_in o)) (cond b (opened stage (Problem event now severity suppressed host trigger name tags) rs ∷ open_any stage rs) (open_any stage rs))
    go true ih = (e.0, ih)
    go false ih = ih
open_each P stage (Failure number host key why ∷ rs) e = open_each P stage rs e.1
open_each P stage (Recovery event by now cause ∷ rs) e = open_each P stage rs e.1
open_each P stage (Step event action step now ∷ rs) e = open_each P stage rs e.1
open_each P stage (Message event action step recipient subject body ∷ rs) e = open_each P stage rs e.1

-- each Problem record precedes those behind it
abbrev pub Earlier : Stage → Rec → Rec → Type 0
Earlier stage r s = OfProblem (λ v. OfProblem (λ w. Precedes stage v w) s) r

pub open_pairs : (stage : Stage) (rs : List Rec) → EachPair (Earlier stage) rs → EachPair (λ (o x : Open). Precedes stage (event_in o) (event_in x)) (open_any stage rs)
open_pairs stage [] e = tt
open_pairs stage (Problem event now severity suppressed host trigger name tags ∷ rs) e = go (not (list_any (recovers event) rs)) (open_pairs stage rs e.1)
  where
    go : (b : Bool) → EachPair (λ (o x : Open). Precedes stage (event_in o) (event_in x)) (open_any stage rs)
        → EachPair (λ (o x : Open). Precedes stage (event_in o) (event_in x)) (cond b (opened stage (Problem event now severity suppressed host trigger name tags) rs ∷ open_any stage rs) (open_any stage rs))
    go true ih = (open_each (Precedes stage event) stage rs e.0, ih)
    go false ih = ih
open_pairs stage (Failure number host key why ∷ rs) e = open_pairs stage rs e.1
open_pairs stage (Recovery event by now cause ∷ rs) e = open_pairs stage rs e.1
open_pairs stage (Step event action step now ∷ rs) e = open_pairs stage rs e.1
open_pairs stage (Message event action step recipient subject body ∷ rs) e = open_pairs stage rs e.1

-- where events are of the triggers whose ids are in them, and each Problem record precedes those behind it and is of a trigger
-- that is there
pub as_recorded : (stage : Stage) → ((event : EventId) → home stage event ≡ event.trigger) → (rs : List Rec) → Once (order stage.conf) → Each (OfProblem (λ event. In event.trigger (order stage.conf))) rs → EachPair (Earlier stage) rs → IsAsRecorded stage rs
unfolding by_making
as_recorded stage ids rs once all pairs =
    let trigger : Open → ℕ = λ o. (event_in o).trigger in
    let found : List Open = open_any stage rs in
    ap (by_event stage event_in) (flat_map_cong (open_of stage rs) (λ id. filter (λ o. trigger o == id) found) (order stage.conf) (each_from (λ id. open_of stage rs id ≡ filter (λ o. trigger o == id) found) (order stage.conf) (λ id i. same id)))
    ∙ ordered_is stage event_in (flat_map (λ id. filter (λ o. trigger o == id) found) (order stage.conf)) found (open_pairs stage rs pairs)
    (λ o. parts_are trigger found (order stage.conf) once (open_each (λ event. In event.trigger (order stage.conf)) stage rs all) (trigger o))
  where
    same : (id : ℕ) → open_of stage rs id ≡ filter (λ o. (event_in o).trigger == id) (open_any stage rs)
    same id = open_part stage rs id ∙ ap (λ (f : EventId → ℕ). filter (λ o. f (event_in o) == id) (open_any stage rs)) (fun_ext ids)
