-- The order in which events were made.
use Rattle.std.proofs.Common.{◌≡◌, ◌≤◌, ◌<◌, ℕ, Bool, true, false, cond, ◌⊎◌, inl, inr, List, [], ◌∷◌, ◌++◌, map, filter, refl, sym, ◌∙◌, ap, subst, arith}
use Rattle.std.specs.Prelude.{nat_le}
use Rattle.std.proofs.lemmas.Bool.{cases_order}
use Rattle.std.proofs.lemmas.Bool.Decides.{leb_tells}
use Rattle.zbx_types.specs.Records.{same_event}
use Rattle.zbx_types.specs.declared.entries.EventId.{EventId}
use Rattle.trigger_state.specs.Stages.{Stage, rank_of}
use Rattle.entry_step.specs.Each.{Each, In, EachPair}
use Rattle.entry_step.specs.Order.{put_by, sorted_by, by_event}
use Rattle.entry_step.proofs.Members.{each_append, each_at, each_both, each_filter, each_sub}
use Rattle.entry_step.proofs.Sorting.{Rises, sorted_rises, each_sorted, by_event_filter, by_event_each}
use Rattle.entry_laws.proofs.Runs.{same_is, same_self}
use Rattle.base_laws.specs.Alike.{IsMadeBefore}

-- Pairs
pub pairs_sub : {A : Type 0} (R S : A → A → Type 0) (xs : List A) → ((x y : A) → R x y → S x y) → EachPair R xs → EachPair S xs
pairs_sub R S [] f e = tt
pairs_sub R S (x ∷ xs) f e = (each_sub (R x) (S x) xs (f x) e.0, pairs_sub R S xs f e.1)

pub pairs_with : {A : Type 0} (P : A → Type 0) (R S : A → A → Type 0) (xs : List A) → ((x y : A) → P x → P y → R x y → S x y) → Each P xs → EachPair R xs → EachPair S xs
pairs_with P R S [] f p e = tt
pairs_with P R S (x ∷ xs) f p e = (each_sub (λ y. P y × R x y) (S x) xs (λ y h. f x y p.0 h.0 h.1) (each_both P (R x) xs p.1 e.0), pairs_with P R S xs f p.1 e.1)

pub pairs_and : {A : Type 0} (P Q : A → A → Type 0) (xs : List A) → EachPair P xs → EachPair Q xs → EachPair (λ x y. P x y × Q x y) xs
pairs_and P Q [] a b = tt
pairs_and P Q (x ∷ xs) a b = (each_both (P x) (Q x) xs a.0 b.0, pairs_and P Q xs a.1 b.1)

pub pairs_both : {A : Type 0} (R : A → A → Type 0) (xs ys : List A) → EachPair R xs → EachPair R ys → Each (λ x. Each (R x) ys) xs → EachPair R (xs ++ ys)
pairs_both R [] ys a b c = b
pairs_both R (x ∷ xs) ys a b c = (each_append (R x) xs ys a.0 c.0, pairs_both R xs ys a.1 b c.1)

pub pairs_map : {A B : Type 0} (R : B → B → Type 0) (f : A → B) (xs : List A) → EachPair (λ x y. R (f x) (f y)) xs → EachPair R (map f xs)
pairs_map R f [] e = tt
pairs_map {A} {B} R f (x ∷ xs) e = (each (f x) xs e.0, pairs_map R f xs e.1)
  where
    each : (b : B) (ys : List A) → Each (λ y. R b (f y)) ys → Each (R b) (map f ys)
    each b [] h = tt
    each b (y ∷ ys) h = (h.0, each b ys h.1)

pub pairs_back : {A B : Type 0} (R : B → B → Type 0) (f : A → B) (xs : List A) → EachPair R (map f xs) → EachPair (λ x y. R (f x) (f y)) xs
pairs_back R f [] e = tt
pairs_back {A} {B} R f (x ∷ xs) e = (each (f x) xs e.0, pairs_back R f xs e.1)
  where
    each : (b : B) (ys : List A) → Each (R b) (map f ys) → Each (λ y. R b (f y)) ys
    each b [] h = tt
    each b (y ∷ ys) h = (h.0, each b ys h.1)

pub each_back : {A B : Type 0} (P : B → Type 0) (f : A → B) (xs : List A) → Each P (map f xs) → Each (λ x. P (f x)) xs
each_back P f [] e = tt
each_back P f (x ∷ xs) e = (e.0, each_back P f xs e.1)

-- Members
pub in_kept : {A : Type 0} (p : A → Bool) (x : A) (xs : List A) → In x (filter p xs) → In x xs × (p x ≡ true)
in_kept p x [] i = absurd i
in_kept {A} p x (y ∷ xs) i = go (p y) refl i (in_kept p x xs)
  where
    go : (b : Bool) → p y ≡ b → In x (cond b (y ∷ filter p xs) (filter p xs)) → (In x (filter p xs) → In x xs × (p x ≡ true)) → In x (y ∷ xs) × (p x ≡ true)
    go true q (inl e) ih = (inl e, ap p e ∙ q)
    go true q (inr j) ih = let r = ih j in (inr r.0, r.1)
    go false q j ih = let r = ih j in (inr r.0, r.1)

-- Two events that aren't made behind each other
event_is : (v w : EventId) → v.number ≡ w.number → v.trigger ≡ w.trigger → v ≡ w
event_is v w n t = ap (λ (x : ℕ). (let e : EventId = record { number = x; trigger = v.trigger } in e)) n ∙ ap (λ (x : ℕ). (let e : EventId = record { number = w.number; trigger = x } in e)) t

module _ (stage : Stage) where
  pub self_before : (v : EventId) → IsMadeBefore stage v v
  self_before v = inr (refl, inr (refl, omega arith))

  pub both_before : (v w : EventId) → IsMadeBefore stage v w → IsMadeBefore stage w v → v ≡ w
  both_before v w (inl l) (inl m) = absurd (omega arith)
  both_before v w (inl l) (inr m) = let q = m.0 in absurd (omega arith)
  both_before v w (inr l) (inl m) = let q = l.0 in absurd (omega arith)
  both_before v w (inr l) (inr m) = go l.1 m.1
    where
      go : (rank_of stage v < rank_of stage w) ⊎ ((rank_of stage v ≡ rank_of stage w) × (v.trigger ≤ w.trigger))
          → (rank_of stage w < rank_of stage v) ⊎ ((rank_of stage w ≡ rank_of stage v) × (w.trigger ≤ v.trigger)) → v ≡ w
      go (inl a) (inl b) = absurd (omega arith)
      go (inl a) (inr b) = let q = b.0 in absurd (omega arith)
      go (inr a) (inl b) = let q = a.0 in absurd (omega arith)
      go (inr a) (inr b) = let x = a.1 in let y = b.1 in let t : v.trigger ≡ w.trigger = omega arith in event_is v w l.0 t

-- A stable sort is in order by the number that it sorts by, and then as it stood
module _ {A : Type 0} (k : A → ℕ) (R : A → A → Type 0) where
  abbrev Then : A → A → Type 0
  Then a b = (k a < k b) ⊎ ((k a ≡ k b) × R a b)

  each_put : (P : A → Type 0) (a : A) (xs : List A) → P a → Each P xs → Each P (put_by k a xs)
  each_put P a [] p e = (p, tt)
  each_put P a (x ∷ xs) p e = go (nat_le (k a) (k x)) (each_put P a xs p e.1)
    where
      go : (b : Bool) → Each P (put_by k a xs) → Each P (cond b (a ∷ x ∷ xs) (x ∷ put_by k a xs))
      go true ih = (p, e)
      go false ih = (e.0, ih)

  upto : (x y : A) → Then x y → k x ≤ k y
  upto x y (inl l) = omega arith
  upto x y (inr m) = let q = m.0 in omega arith

  first : (a : A) (ys : List A) → Each (λ y. k a ≤ k y) ys → Each (R a) ys → Each (Then a) ys
  first a ys l r = each_sub (λ y. (k a ≤ k y) × R a y) (Then a) ys one (each_both (λ y. k a ≤ k y) (R a) ys l r)
    where
      one : (y : A) → (k a ≤ k y) × R a y → Then a y
      one y h = go (cases_order (k a) (k y))
        where
          go : (k a ≡ k y) ⊎ ((k a < k y) ⊎ (k y < k a)) → Then a y
          go (inl q) = inr (q, h.1)
          go (inr (inl m)) = inl m
          go (inr (inr m)) = let n = h.0 in absurd (omega arith)

  put_then : (a : A) (xs : List A) → Each (R a) xs → EachPair Then xs → EachPair Then (put_by k a xs)
  put_then a [] r e = (tt, tt)
  put_then a (x ∷ xs) r e = go (leb_tells (k a) (k x)) (put_then a xs r.1 e.1)
    where
      go : ((nat_le (k a) (k x) ≡ true) × (k a ≤ k x)) ⊎ ((nat_le (k a) (k x) ≡ false) × (k x < k a)) → EachPair Then (put_by k a xs) → EachPair Then (cond (nat_le (k a) (k x)) (a ∷ x ∷ xs) (x ∷ put_by k a xs))
      go (inl h) ih = rw h.0 (first a (x ∷ xs) (h.1, each_sub (Then x) (λ y. k a ≤ k y) xs (λ y t. let l = h.1 in let m = upto x y t in omega arith) e.0) r, e)
      go (inr h) ih = rw h.0 (each_put (Then x) a xs (inl h.1) e.0, ih)

  pub sorted_then : (xs : List A) → EachPair R xs → EachPair Then (sorted_by k xs)
  sorted_then [] e = tt
  sorted_then (x ∷ xs) e = put_then x (sorted_by k xs) (each_sorted k (R x) xs e.0) (sorted_then xs e.1)

-- items of one number stay as they stood
put_same : {A : Type 0} (k : A → ℕ) (c : ℕ) (a : A) (xs : List A) → k a ≡ c → Each (λ x. k x ≡ c) xs → put_by k a xs ≡ a ∷ xs
put_same k c a [] p e = refl
put_same {A} k c a (x ∷ xs) p e = go (leb_tells (k a) (k x))
  where
    go : ((nat_le (k a) (k x) ≡ true) × (k a ≤ k x)) ⊎ ((nat_le (k a) (k x) ≡ false) × (k x < k a)) → cond (nat_le (k a) (k x)) (a ∷ x ∷ xs) (x ∷ put_by k a xs) ≡ a ∷ x ∷ xs
    go (inl h) = rw h.0 refl
    go (inr h) = let l = h.1 in let q = e.0 in absurd (omega arith)

sorted_same : {A : Type 0} (k : A → ℕ) (c : ℕ) (xs : List A) → Each (λ x. k x ≡ c) xs → sorted_by k xs ≡ xs
sorted_same k c [] e = refl
sorted_same k c (x ∷ xs) e = ap (put_by k x) (sorted_same k c xs e.1) ∙ put_same k c x xs e.0 e.1

-- A list in which no event is made behind a later one is told by what it has of each event
module _ {A : Type 0} (event : A → EventId) (R : EventId → EventId → Type 0) (anti : (v w : EventId) → R v w → R w v → v ≡ w) where
  abbrev of : EventId → A → Bool
  of v x = same_event (event x) v

  abbrev InOrder : List A → Type 0
  InOrder xs = EachPair (λ x y. R (event x) (event y)) xs

  own : (x : A) (xs : List A) → filter (of (event x)) (x ∷ xs) ≡ x ∷ filter (of (event x)) xs
  own x xs = ap (λ b. cond b (x ∷ filter (of (event x)) xs) (filter (of (event x)) xs)) (same_self (event x))

  tail_same : (p q : Bool) (y z : A) (ys zs : List A) → p ≡ q → cond p (y ∷ ys) ys ≡ cond q (z ∷ zs) zs → ys ≡ zs
  tail_same true true y z ys zs e f = cc
  tail_same false false y z ys zs e f = f
  tail_same true false y z ys zs e f = cc
  tail_same false true y z ys zs e f = cc

  -- the first of the one list stands in the other one
  behind : (x z : A) (xs zs : List A) → same_event (event z) (event x) ≡ false → Each (λ y. R (event x) (event y)) xs → filter (of (event z)) (x ∷ xs) ≡ filter (of (event z)) (z ∷ zs) → R (event x) (event z)
  behind x z xs zs off e h = go (in_kept (of (event z)) z (x ∷ xs) (subst (λ ys. In z ys) (sym (h ∙ own z zs)) (inl refl))).0
    where
      go : In z (x ∷ xs) → R (event x) (event z)
      go (inl q) = let t : same_event (event z) (event x) ≡ true = ap (λ y. same_event (event z) (event y)) (sym q) ∙ same_self (event z) in absurd (let f : true ≡ false = sym t ∙ off in cc)
      go (inr i) = each_at (λ y. R (event x) (event y)) xs e z i

  flip : (v w : EventId) → same_event v w ≡ false → same_event w v ≡ false
  flip v w off = go (same_event w v) refl
    where
      go : (b : Bool) → same_event w v ≡ b → same_event w v ≡ false
      go true q = let t : same_event v w ≡ true = ap (λ x. same_event x w) (sym (same_is w v q)) ∙ same_self w in absurd (let f : true ≡ false = sym t ∙ off in cc)
      go false q = q

  pub told_by_events : (xs zs : List A) → InOrder xs → InOrder zs → ((v : EventId) → filter (of v) xs ≡ filter (of v) zs) → xs ≡ zs
  told_by_events [] [] a b h = refl
  told_by_events [] (z ∷ zs) a b h = let f : [] ≡ z ∷ filter (of (event z)) zs = h (event z) ∙ own z zs in cc
  told_by_events (x ∷ xs) [] a b h = let f : x ∷ filter (of (event x)) xs ≡ [] = sym (own x xs) ∙ h (event x) in cc
  told_by_events (x ∷ xs) (z ∷ zs) a b h = go (same_event (event z) (event x)) refl (told_by_events xs zs a.1 b.1)
    where
      go : (b : Bool) → same_event (event z) (event x) ≡ b → (((v : EventId) → filter (of v) xs ≡ filter (of v) zs) → xs ≡ zs) → x ∷ xs ≡ z ∷ zs
      go true q ih =
          let f : x ∷ filter (of (event x)) xs ≡ z ∷ filter (of (event x)) zs = sym (own x xs) ∙ h (event x) ∙ ap (λ b. cond b (z ∷ filter (of (event x)) zs) (filter (of (event x)) zs)) q in
          let head : x ≡ z = cc in
          let rest : xs ≡ zs = ih (λ v. tail_same (of v x) (of v z) x z (filter (of v) xs) (filter (of v) zs) (ap (of v) head) (h v)) in cc
      go false q ih =
          let same : event x ≡ event z = anti (event x) (event z) (behind x z xs zs q a.0 (h (event z))) (behind z x zs xs (flip (event z) (event x) q) b.0 (sym (h (event x)))) in
          let t : same_event (event z) (event x) ≡ true = ap (same_event (event z)) same ∙ same_self (event z) in absurd (let f : true ≡ false = sym t ∙ q in cc)

-- The order of making
module _ {A : Type 0} (stage : Stage) (event : A → EventId) where
  abbrev number_at : A → ℕ
  number_at x = (event x).number

  abbrev rank_at : A → ℕ
  rank_at x = rank_of stage (event x)

  abbrev trigger_at : A → ℕ
  trigger_at x = (event x).trigger

  abbrev pub IsInOrder : List A → Type 0
  IsInOrder xs = EachPair (λ x y. IsMadeBefore stage (event x) (event y)) xs

  rise_pairs : (xs : List A) → Rises trigger_at xs → EachPair (λ x y. trigger_at x ≤ trigger_at y) xs
  rise_pairs [] r = tt
  rise_pairs (x ∷ xs) r = (r.0, rise_pairs xs r.1)

  pub made_in_order : (xs : List A) → IsInOrder (by_event stage event xs)
  made_in_order xs =
      sorted_then number_at (λ x y. (rank_at x < rank_at y) ⊎ ((rank_at x ≡ rank_at y) × (trigger_at x ≤ trigger_at y))) (sorted_by rank_at (sorted_by trigger_at xs))
      (sorted_then rank_at (λ x y. trigger_at x ≤ trigger_at y) (sorted_by trigger_at xs) (rise_pairs (sorted_by trigger_at xs) (sorted_rises trigger_at xs)))

  -- what is of one event stays as it stood
  pub event_stays : (v : EventId) (xs : List A) → filter (λ x. same_event (event x) v) (by_event stage event xs) ≡ filter (λ x. same_event (event x) v) xs
  event_stays v xs =
      by_event_filter stage event (λ x. same_event (event x) v) xs
      ∙ ap (λ ys. sorted_by number_at (sorted_by rank_at ys)) (sorted_same trigger_at v.trigger mine (each_sub (λ x. event x ≡ v) (λ x. trigger_at x ≡ v.trigger) mine (λ x q. ap (λ (w : EventId). w.trigger) q) is))
      ∙ ap (sorted_by number_at) (sorted_same rank_at (rank_of stage v) mine (each_sub (λ x. event x ≡ v) (λ x. rank_at x ≡ rank_of stage v) mine (λ x q. ap (rank_of stage) q) is))
      ∙ sorted_same number_at v.number mine (each_sub (λ x. event x ≡ v) (λ x. number_at x ≡ v.number) mine (λ x q. ap (λ (w : EventId). w.number) q) is)
    where
      mine : List A
      mine = filter (λ x. same_event (event x) v) xs

      is : Each (λ x. event x ≡ v) mine
      is = each_filter (λ x. event x ≡ v) (λ x. same_event (event x) v) xs (λ x i q. same_is (event x) v q)

  -- so what is in order stays as it stands
  pub stays_in_order : (xs : List A) → IsInOrder xs → by_event stage event xs ≡ xs
  stays_in_order xs e = told_by_events event (IsMadeBefore stage) (both_before stage) (by_event stage event xs) xs (made_in_order xs) e (λ v. event_stays v xs)

-- two orders of making are one where they agree on the events of a list
pub same_order : {A : Type 0} (stage other : Stage) (event : A → EventId) (Q : EventId → Type 0) → ((v w : EventId) → Q v → Q w → IsMadeBefore stage v w → IsMadeBefore other v w) → (xs : List A) → Each (λ x. Q (event x)) xs
    → by_event stage event xs ≡ by_event other event xs
same_order stage other event Q agree xs q =
    told_by_events event (IsMadeBefore other) (both_before other) (by_event stage event xs) (by_event other event xs)
    (pairs_with (λ x. Q (event x)) (λ x y. IsMadeBefore stage (event x) (event y)) (λ x y. IsMadeBefore other (event x) (event y)) (by_event stage event xs) (λ x y p r. agree (event x) (event y) p r) (by_event_each stage event (λ x. Q (event x)) xs q) (made_in_order stage event xs))
    (made_in_order other event xs) (λ v. event_stays stage event v xs ∙ sym (event_stays other event v xs))

-- and where the one has a list in order that the other one has in order too
pub agree_in_list : (P Q : EventId → EventId → Type 0) → ((v w : EventId) → P v w → P w v → v ≡ w) → ((v : EventId) → Q v v) → (xs : List EventId) → EachPair P xs → EachPair Q xs → (v w : EventId) → In v xs → In w xs → P v w → Q v w
agree_in_list P Q anti self [] p q v w i j h = absurd i
agree_in_list P Q anti self (x ∷ xs) p q v w (inl a) (inl b) h = subst (λ z. Q v z) (a ∙ sym b) (self v)
agree_in_list P Q anti self (x ∷ xs) p q v w (inl a) (inr j) h = subst (λ z. Q z w) (sym a) (each_at (Q x) xs q.0 w j)
agree_in_list P Q anti self (x ∷ xs) p q v w (inr i) (inl b) h =
    let same : v ≡ w = anti v w h (subst (λ z. P z v) (sym b) (each_at (P x) xs p.0 v i)) in subst (λ z. Q v z) same (self v)
agree_in_list P Q anti self (x ∷ xs) p q v w (inr i) (inr j) h = agree_in_list P Q anti self xs p.1 q.1 v w i j h
