-- Open problems behind a Config: what the search finds by what is in force then is what the cells carry.
use Rattle.std.proofs.Common.{◌≡◌, ◌≤◌, ◌==◌, ℕ, ◌&&◌, ◌||◌, inl, inr, not, Bool, true, false, cond, Option, Some, None, List, [], ◌∷◌, ◌++◌, map, filter, refl, sym, ◌∙◌, ap, ap₂, subst, eqb-true, eq-eqb, arith}
use Rattle.std.specs.Prelude.{flat_map, nat_le, option_and_then}
use Rattle.std.specs.List.{list_any, find}
use Rattle.std.specs.Option.{option_map_or, unwrap_or}
use Rattle.std.proofs.lemmas.List.Folds.{list_any-append}
use Rattle.zbx_types.specs.Ids.{at_id}
use Rattle.zbx_types.specs.Records.{same_event, event_of, tags_of, host_of, trigger_name_of}
use Rattle.zbx_types.specs.declared.conf.Conf.{Conf}
use Rattle.zbx_types.specs.declared.entries.Cause2.TheVariants as causes
use Rattle.zbx_types.specs.declared.entries.EventId.{EventId}
use Rattle.zbx_types.specs.declared.entries.Rec.{Rec}
use Rattle.zbx_types.specs.declared.entries.Rec.TheVariants.{Failure, Problem, Recovery, Step, Message}
use Rattle.zbx_types.specs.declared.triggers.Trigger.{Trigger}
use Rattle.trigger_state.specs.Carry.{same_names, trigger_for, is_one_of, is_gone, origin_in, carried_to, carried as rows_carried}
use Rattle.trigger_state.specs.Problems.{event_in, opens, recovers, is_step_of, with_step, steps_from, opened, open_of}
use Rattle.trigger_state.specs.Stages.{Stage, origin_of, id_named, trigger_named, home_by, rank_by, home, rank_of}
use Rattle.trigger_state.specs.declared.stage.Origin.{Origin}
use Rattle.trigger_state.specs.declared.problems.Open.{Open}
use Rattle.entry_step.specs.Carry.{removed, next_stage}
use Rattle.entry_step.specs.Due.{by_making}
use Rattle.entry_step.specs.Each.{Each, In}
use Rattle.entry_step.specs.Named.{AreDistinct, host_of as host_of_trigger}
use Rattle.entry_step.specs.Order.{put_by, sorted_by}
use Rattle.conf_index.specs.Order.{order}
use Rattle.entry_step.specs.Records.{recovery_of}
use Rattle.entry_step.specs.Represents.{AllAtHome}
use Rattle.entry_step.specs.Whole.{IsTold, AreTold}
use Rattle.entry_step.proofs.Finding.{some_one, named_found, named_is, names_same, names_are}
use Rattle.entry_step.proofs.Members.{and_both, any_intro, any_elim, each_from, each_at, each_filter, each_map, each_kept}
use Rattle.entry_step.proofs.Problems.{open_append, home_all}
use Rattle.entry_step.proofs.Replays.{stands}
use Rattle.entry_step.proofs.Said.{each_flat_map}
use Rattle.entry_step.proofs.Sorting.{by_event_each}

-- Tests
off : {A : Type 0} (b : Bool) (xs ys : A) → cond (b && false) xs ys ≡ ys
off true xs ys = refl
off false xs ys = refl

off_both : (a b : Bool) → (a && false) ≡ (b && false)
off_both true true = refl
off_both true false = refl
off_both false true = refl
off_both false false = refl

not_off : (b : Bool) → (b && false) ≡ true → ⊥
not_off true e = cc
not_off false e = cc

same_self : (e : EventId) → same_event e e ≡ true
same_self e = and_both (e.number == e.number) (e.trigger == e.trigger) (eq-eqb e.number e.number refl) (eq-eqb e.trigger e.trigger refl)

same_is : (a b : EventId) → same_event a b ≡ true → a ≡ b
same_is a b h = go (a.number == b.number) (a.trigger == b.trigger) refl refl h
  where
    both : a.number ≡ b.number → a.trigger ≡ b.trigger → a ≡ b
    both n t = ap (λ (x : ℕ). (let e : EventId = record { number = x; trigger = a.trigger } in e)) n ∙ ap (λ (x : ℕ). (let e : EventId = record { number = b.number; trigger = x } in e)) t

    go : (x y : Bool) → (a.number == b.number) ≡ x → (a.trigger == b.trigger) ≡ y → (x && y) ≡ true → a ≡ b
    go true true n t h = both (eqb-true a.number b.number n) (eqb-true a.trigger b.trigger t)
    go true false n t h = cc
    go false y n t h = cc

equal_tests : (a b c d : ℕ) → (a ≡ b → c ≡ d) → (c ≡ d → a ≡ b) → (a == b) ≡ (c == d)
equal_tests a b c d f g = go (a == b) refl (c == d) refl
  where
    go : (x : Bool) → (a == b) ≡ x → (y : Bool) → (c == d) ≡ y → (a == b) ≡ (c == d)
    go true e true h = e ∙ sym h
    go false e false h = e ∙ sym h
    go true e false h = let q : (c == d) ≡ true = eq-eqb c d (f (eqb-true a b e)) in absurd (let z : true ≡ false = sym q ∙ h in cc)
    go false e true h = let q : (a == b) ≡ true = eq-eqb a b (g (eqb-true c d h)) in absurd (let z : true ≡ false = sym q ∙ e in cc)

-- Members
in_left : {A : Type 0} (x : A) (xs ys : List A) → In x xs → In x (xs ++ ys)
in_left x [] ys i = absurd i
in_left x (y ∷ xs) ys (inl e) = inl e
in_left x (y ∷ xs) ys (inr i) = inr (in_left x xs ys i)

in_right : {A : Type 0} (x : A) (xs ys : List A) → In x ys → In x (xs ++ ys)
in_right x [] ys i = i
in_right x (y ∷ xs) ys i = inr (in_right x xs ys i)

in_flat_map : {A B : Type 0} (f : A → List B) (xs : List A) (x : A) (y : B) → In x xs → In y (f x) → In y (flat_map f xs)
in_flat_map f [] x y i j = absurd i
in_flat_map f (z ∷ xs) x y (inl e) j = in_left y (f z) (flat_map f xs) (subst (λ w. In y (f w)) e j)
in_flat_map f (z ∷ xs) x y (inr i) j = in_right y (f z) (flat_map f xs) (in_flat_map f xs x y i j)

in_filter : {A : Type 0} (p : A → Bool) (x : A) (xs : List A) → In x xs → p x ≡ true → In x (filter p xs)
in_filter p x [] i e = absurd i
in_filter {A} p x (y ∷ xs) i e = go (p y) refl i (λ j. in_filter p x xs j e)
  where
    go : (b : Bool) → p y ≡ b → In x (y ∷ xs) → (In x xs → In x (filter p xs)) → In x (cond b (y ∷ filter p xs) (filter p xs))
    go true q (inl r) ih = inl r
    go true q (inr j) ih = inr (ih j)
    go false q (inl r) ih = let u : p y ≡ true = ap p (sym r) ∙ e in absurd (let z : true ≡ false = sym u ∙ q in cc)
    go false q (inr j) ih = ih j

in_back : {A : Type 0} (p : A → Bool) (x : A) (xs : List A) → In x (filter p xs) → In x xs × (p x ≡ true)
in_back p x [] i = absurd i
in_back {A} p x (y ∷ xs) i = go (p y) refl i (in_back p x xs)
  where
    go : (b : Bool) → p y ≡ b → In x (cond b (y ∷ filter p xs) (filter p xs)) → (In x (filter p xs) → In x xs × (p x ≡ true)) → In x (y ∷ xs) × (p x ≡ true)
    go true q (inl e) ih = (inl e, ap p e ∙ q)
    go true q (inr j) ih = let r = ih j in (inr r.0, r.1)
    go false q j ih = let r = ih j in (inr r.0, r.1)

in_put : {A : Type 0} (k : A → ℕ) (a x : A) (xs : List A) → In x (a ∷ xs) → In x (put_by k a xs)
in_put k a x [] i = i
in_put {A} k a x (y ∷ xs) i = go (nat_le (k a) (k y)) i (in_put k a x xs)
  where
    go : (b : Bool) → In x (a ∷ y ∷ xs) → (In x (a ∷ xs) → In x (put_by k a xs)) → In x (cond b (a ∷ y ∷ xs) (y ∷ put_by k a xs))
    go true i ih = i
    go false (inl e) ih = inr (ih (inl e))
    go false (inr (inl e)) ih = inl e
    go false (inr (inr i)) ih = inr (ih (inr i))

in_sorted : {A : Type 0} (k : A → ℕ) (x : A) (xs : List A) → In x xs → In x (sorted_by k xs)
in_sorted k x [] i = i
in_sorted k x (y ∷ xs) (inl e) = in_put k y x (sorted_by k xs) (inl e)
in_sorted k x (y ∷ xs) (inr i) = in_put k y x (sorted_by k xs) (inr (in_sorted k x xs i))

in_making : (stage : Stage) (all : ℕ → List Open) (o : Open) (id : ℕ) → In id (order stage.conf) → In o (all id) → In o (by_making stage all)
unfolding by_making
in_making stage all o id i j =
    in_sorted (λ (x : Open). (event_in x).number) o _
    (in_sorted (λ (x : Open). rank_of stage (event_in x)) o _ (in_sorted (λ (x : Open). (event_in x).trigger) o (flat_map all (order stage.conf)) (in_flat_map all (order stage.conf) id o i j)))

each_making : (stage : Stage) (all : ℕ → List Open) (P : Open → Type 0) → ((id : ℕ) → Each P (all id)) → Each P (by_making stage all)
unfolding by_making
each_making stage all P h = by_event_each stage event_in P (flat_map all (order stage.conf)) (each_flat_map P all (order stage.conf) h)

any_map : {A B : Type 0} (p : B → Bool) (f : A → B) (xs : List A) → list_any p (map f xs) ≡ list_any (λ x. p (f x)) xs
any_map p f [] = refl
any_map p f (x ∷ xs) = ap (λ b. p (f x) || b) (any_map p f xs)

filter_nothing : {A : Type 0} (xs : List A) → filter (λ x. false) xs ≡ []
filter_nothing [] = refl
filter_nothing (x ∷ xs) = filter_nothing xs

-- The search by one stage over some more records that open nothing and run no step, where for each open problem it agrees
-- with the search by another stage, less what a test drops
module _ (old new : Stage) (t j : ℕ) (more : List Rec) (keep : Open → Bool) (none : open_of new more t ≡ []) (quiet : (e : EventId) (steps : List Rec) → steps_from e steps more ≡ steps) where
  pub record Agrees (o : Open) : Type 0 where
    pub found : ((home new (event_in o) == t) && not (list_any (recovers (event_in o)) more)) ≡ ((home old (event_in o) == j) && keep o)
    pub rank : ((home old (event_in o) == j) && keep o) ≡ true → rank_of new (event_in o) ≡ rank_of old (event_in o)

  steps_same : (e : EventId) (steps rs : List Rec) → steps_from e steps (rs ++ more) ≡ steps_from e steps rs
  steps_same e steps [] = quiet e steps
  steps_same e steps (r ∷ rs) = steps_same e (cond (is_step_of e r) (with_step steps r) steps) rs

  opened_same : (r : Rec) (rs : List Rec) → rank_of new (event_of r) ≡ rank_of old (event_of r) → opened new r (rs ++ more) ≡ opened old r rs
  opened_same r rs e =
      ap (λ (ss : List Rec). (let o : Open = record { problem = r; steps = ss; rank = rank_of new (event_of r) } in o)) (steps_same (event_of r) [] rs)
      ∙ ap (λ (k : ℕ). (let o : Open = record { problem = r; steps = steps_from (event_of r) [] rs; rank = k } in o)) e

  in_more : (i : ℕ) (o : Open) (r : Rec) (rs : List Rec) → In o (open_of old rs i) → In o (open_of old (r ∷ rs) i)
  in_more i o r rs m = go (opens old i r && not (list_any (recovers (event_of r)) rs))
    where
      go : (b : Bool) → In o (cond b (opened old r rs ∷ open_of old rs i) (open_of old rs i))
      go true = inr m
      go false = m

  first : (o : Open) (a b : Bool) (xs : List Open) → a ≡ true → b ≡ false → In o (cond (a && not b) (o ∷ xs) xs)
  first o true false xs e f = inl refl
  first o true true xs e f = absurd (cc)
  first o false b xs e f = absurd (cc)

  one : (r : Rec) (rs : List Rec) → open_of new (rs ++ more) t ≡ filter keep (open_of old rs j) → ((o : Open) (i : ℕ) → In o (open_of old (r ∷ rs) i) → Agrees o)
      → open_of new ((r ∷ rs) ++ more) t ≡ filter keep (open_of old (r ∷ rs) j)
  one (Failure number host key why) rs ih h = ih
  one (Recovery event by now cause) rs ih h = ih
  one (Step event action step now) rs ih h = ih
  one (Message event action step recipient subject body) rs ih h = ih
  one (Problem event now severity suppressed host trigger name tags) rs ih h =
      ap (λ b. cond ((home new event == t) && not b) (p ∷ xs) xs) (list_any-append (recovers event) rs more) ∙ go (list_any (recovers event) rs) refl
    where
      r : Rec
      r = Problem event now severity suppressed host trigger name tags

      p : Open
      p = opened new r (rs ++ more)

      o : Open
      o = opened old r rs

      xs : List Open
      xs = open_of new (rs ++ more) t

      ys : List Open
      ys = open_of old rs j

      last : (b k : Bool) → keep o ≡ k → ((b && k) ≡ true → p ≡ o) → cond (b && k) (p ∷ xs) xs ≡ filter keep (cond (b && true) (o ∷ ys) ys)
      last true true e f = ap₂ (λ z zs. z ∷ zs) (f refl) ih ∙ ap (λ c. cond c (o ∷ filter keep ys) (filter keep ys)) (sym e)
      last true false e f = ih ∙ ap (λ c. cond c (o ∷ filter keep ys) (filter keep ys)) (sym e)
      last false k e f = ih

      go : (b : Bool) → list_any (recovers event) rs ≡ b → cond ((home new event == t) && not (b || list_any (recovers event) more)) (p ∷ xs) xs ≡ filter keep (cond ((home old event == j) && not b) (o ∷ ys) ys)
      go true q = off (home new event == t) (p ∷ xs) xs ∙ ih ∙ ap (filter keep) (sym (off (home old event == j) (o ∷ ys) ys))
      go false q =
          let agrees : Agrees o = h o (home old event) (first o (home old event == home old event) (list_any (recovers event) rs) (open_of old rs (home old event)) (eq-eqb (home old event) (home old event) refl) q) in
          ap (λ b. cond b (p ∷ xs) xs) agrees.found ∙ last (home old event == j) (keep o) refl (λ e. opened_same r rs (agrees.rank e))

  pub kept_open : (rs : List Rec) → ((o : Open) (i : ℕ) → In o (open_of old rs i) → Agrees o) → open_of new (rs ++ more) t ≡ filter keep (open_of old rs j)
  kept_open [] h = none
  kept_open (r ∷ rs) h = one r rs (kept_open rs (λ o i m. h o i (in_more i o r rs m))) h

-- The rank that an open problem keeps is that of its event
rank_kept : (stage : Stage) (rs : List Rec) (id : ℕ) → Each (λ (o : Open). o.rank ≡ rank_of stage (event_in o)) (open_of stage rs id)
rank_kept stage [] id = tt
rank_kept stage (r ∷ rs) id = go (opens stage id r && not (list_any (recovers (event_of r)) rs)) (rank_kept stage rs id)
  where
    go : (b : Bool) → Each (λ (o : Open). o.rank ≡ rank_of stage (event_in o)) (open_of stage rs id) → Each (λ (o : Open). o.rank ≡ rank_of stage (event_in o)) (cond b (opened stage r rs ∷ open_of stage rs id) (open_of stage rs id))
    go true ih = (refl, ih)
    go false ih = ih

homes_kept : (stage : Stage) (rs : List Rec) (id : ℕ) → AllAtHome stage id (open_of stage rs id)
homes_kept stage rs id = subst (AllAtHome stage id) (sym (open_append stage id [] rs)) (home_all stage id [] rs tt)

-- Recoveries open nothing and run no step
none_open : (stage : Stage) (number now t : ℕ) (gs : List Open) → open_of stage (map (λ (g : Open). recovery_of number now causes.Removed (event_in g)) gs) t ≡ []
none_open stage number now t [] = refl
none_open stage number now t (g ∷ gs) = none_open stage number now t gs

no_steps : (number now : ℕ) (gs : List Open) (e : EventId) (steps : List Rec) → steps_from e steps (map (λ (g : Open). recovery_of number now causes.Removed (event_in g)) gs) ≡ steps
no_steps number now [] e steps = refl
no_steps number now (g ∷ gs) e steps = no_steps number now gs e steps

-- the origin of an event that one of these problems has
found_origin : (e : EventId) (xs : List Open) (o : Open) → In o xs → same_event (event_in o) e ≡ true
    → (g : Open) × In g xs × (same_event (event_in g) e ≡ true) × (find (λ (p : Origin). same_event p.event e) (map origin_in xs) ≡ Some (origin_in g))
found_origin e [] o i s = absurd i
found_origin e (x ∷ xs) o i s = go (same_event (event_in x) e) refl i (λ j. found_origin e xs o j s)
  where
    go : (b : Bool) → same_event (event_in x) e ≡ b → In o (x ∷ xs) → (In o xs → (g : Open) × In g xs × (same_event (event_in g) e ≡ true) × (find (λ (p : Origin). same_event p.event e) (map origin_in xs) ≡ Some (origin_in g)))
        → (g : Open) × In g (x ∷ xs) × (same_event (event_in g) e ≡ true) × (find (λ (p : Origin). same_event p.event e) (map origin_in (x ∷ xs)) ≡ Some (origin_in g))
    go true q i ih = (x, inl refl, q, ap (λ b. cond b (Some (origin_in x)) (find (λ (p : Origin). same_event p.event e) (map origin_in xs))) q)
    go false q (inl y) ih = let z : true ≡ false = sym s ∙ ap (λ (w : Open). same_event (event_in w) e) y ∙ q in absurd (cc)
    go false q (inr j) ih = let r = ih j in (r.0, inr r.1, r.2, ap (λ b. cond b (Some (origin_in x)) (find (λ (p : Origin). same_event p.event e) (map origin_in xs))) q ∙ r.3)

-- two problems of the same names, with tags of the same names, go on in the same way
one_same : (conf : Conf) (p q : Rec) → host_of p ≡ host_of q → trigger_name_of p ≡ trigger_name_of q → map (λ tag. tag.tag) (tags_of p) ≡ map (λ tag. tag.tag) (tags_of q)
    → is_one_of p (trigger_for conf p) ≡ is_one_of q (trigger_for conf q)
one_same conf p q h n t = go (trigger_for conf p) ∙ ap (is_one_of q) (ap₂ (λ a b. option_and_then (at_id conf.triggers) (id_named conf a b)) h n)
  where
    go : (x : Option Trigger) → is_one_of p x ≡ is_one_of q x
    go None = refl
    go (Some u) = names_same (tags_of p) (tags_of q) u.tags t

-- where a problem that goes on does
record GoesOn (conf : Conf) (p : Rec) : Type 0 where
  id : ℕ
  trigger : Trigger
  named : id_named conf (host_of p) (trigger_name_of p) ≡ Some id
  there : at_id conf.triggers id ≡ Some trigger
  tags : same_names (tags_of p) trigger.tags ≡ true

goes_on : (conf : Conf) (p : Rec) → is_one_of p (trigger_for conf p) ≡ true → GoesOn conf p
goes_on conf p e = by_name (id_named conf (host_of p) (trigger_name_of p)) refl e
  where
    by_name : (x : Option ℕ) → id_named conf (host_of p) (trigger_name_of p) ≡ x → is_one_of p (option_and_then (at_id conf.triggers) x) ≡ true → GoesOn conf p
    by_name None n h = absurd (cc)
    by_name (Some k) n h = by_id (at_id conf.triggers k) refl h
      where
        by_id : (y : Option Trigger) → at_id conf.triggers k ≡ y → is_one_of p y ≡ true → GoesOn conf p
        by_id None t h = absurd (cc)
        by_id (Some u) t h = record { id = k; trigger = u; named = n; there = t; tags = h }

not_gone : (b : Bool) → not b ≡ false → b ≡ true
not_gone true e = refl
not_gone false e = cc

-- At a Config
module _ (old : Stage) (conf : Conf) (m number now : ℕ) (rs : List Rec) (distinct : AreDistinct old.conf) (distinct_new : AreDistinct conf) (told : AreTold old m rs) where
  abbrev all : List Open
  all = by_making old (open_of old rs)

  abbrev gone : List Open
  gone = filter (is_gone conf) all

  abbrev stay : Open → Bool
  stay o = not (is_gone conf o)

  abbrev next : Stage
  next = next_stage old conf (open_of old rs)

  abbrev more : List Rec
  more = removed old conf number now (open_of old rs)

  home_is : (o : Open) (i : ℕ) → In o (open_of old rs i) → home old (event_in o) ≡ i
  home_is o i k = each_at (λ (x : Open). home old (event_in x) ≡ i) (open_of old rs i) (homes_kept old rs i) o k

  told_at : (o : Open) (i : ℕ) → In o (open_of old rs i) → IsTold old.conf m i o.problem
  told_at o i k = each_at (λ (x : Open). IsTold old.conf m i x.problem) (open_of old rs i) (told i) o k

  in_all : (o : Open) (i : ℕ) → In o (open_of old rs i) → In o all
  in_all o i k = let t = told_at o i k in in_making old (open_of old rs) o i (stands old.conf i t.trigger t.there) k

  from_all : (o : Open) → In o all → (i : ℕ) × In o (open_of old rs i)
  from_all o k =
      each_at (λ (x : Open). (i : ℕ) × In x (open_of old rs i)) all
      (each_making old (open_of old rs) (λ (x : Open). (i : ℕ) × In x (open_of old rs i)) (λ i. each_from (λ (x : Open). (i : ℕ) × In x (open_of old rs i)) (open_of old rs i) (λ x l. (i, l)))) o k

  -- problems of one trigger have the same names
  record SameNames (o g : Open) : Type 0 where
    host : host_of o.problem ≡ host_of g.problem
    name : trigger_name_of o.problem ≡ trigger_name_of g.problem
    tags : map (λ tag. tag.tag) (tags_of o.problem) ≡ map (λ tag. tag.tag) (tags_of g.problem)

  same_trigger : (o g : Open) (i : ℕ) → In o (open_of old rs i) → In g (open_of old rs i) → SameNames o g
  same_trigger o g i k l =
      let a = told_at o i k in
      let b = told_at g i l in
      let e : a.trigger ≡ b.trigger = some_one a.trigger b.trigger (sym a.there ∙ b.there) in
      record {
        host = a.host ∙ ap (host_of_trigger old.conf) e ∙ sym b.host;
        name = a.name ∙ ap (λ (t : Trigger). t.name) e ∙ sym b.name;
        tags = a.tags ∙ ap (λ (t : Trigger). map (λ tag. tag.tag) t.tags) e ∙ sym b.tags;
      }

  -- so do problems of one event
  same_place : (o g : Open) (i j : ℕ) → In o (open_of old rs i) → In g (open_of old rs j) → same_event (event_in o) (event_in g) ≡ true → In g (open_of old rs i)
  same_place o g i j k l e = subst (λ n. In g (open_of old rs n)) (sym (home_is g j l) ∙ ap (home old) (sym (same_is (event_in o) (event_in g) e)) ∙ home_is o i k) l

  -- a Recovery names an open problem exactly where it is gone
  recovered : (o : Open) (i : ℕ) → In o (open_of old rs i) → list_any (recovers (event_in o)) more ≡ is_gone conf o
  recovered o i k =
      any_map (recovers (event_in o)) (λ (g : Open). recovery_of number now causes.Removed (event_in g)) gone
      ∙ go (is_gone conf o) refl (list_any (λ (g : Open). same_event (event_in o) (event_in g)) gone) refl
    where
      go : (b : Bool) → is_gone conf o ≡ b → (c : Bool) → list_any (λ (g : Open). same_event (event_in o) (event_in g)) gone ≡ c → list_any (λ (g : Open). same_event (event_in o) (event_in g)) gone ≡ is_gone conf o
      go true q c r = any_intro (λ (g : Open). same_event (event_in o) (event_in g)) o gone (in_filter (is_gone conf) o all (in_all o i k) q) (same_self (event_in o)) ∙ sym q
      go false q false r = r ∙ sym q
      go false q true r =
          let w = any_elim (λ (g : Open). same_event (event_in o) (event_in g)) gone r in
          let f = in_back (is_gone conf) w.0 all w.1 in
          let l = from_all w.0 f.0 in
          let s = same_trigger o w.0 i k (same_place o w.0 i l.0 k l.1 w.2) in
          let z : false ≡ true = sym q ∙ ap not (one_same conf o.problem w.0.problem s.host s.name s.tags) ∙ f.1 in absurd (cc)

  -- an open problem that stays is told by its origin
  record Stays (o : Open) : Type 0 where
    at : GoesOn conf o.problem
    its_home : home next (event_in o) ≡ at.id
    its_rank : rank_of next (event_in o) ≡ rank_of old (event_in o)

  stays : (o : Open) (i : ℕ) → In o (open_of old rs i) → is_gone conf o ≡ false → Stays o
  unfolding trigger_named
  stays o i k q =
      let on = goes_on conf o.problem (not_gone (is_one_of o.problem (trigger_for conf o.problem)) q) in
      let f = found_origin (event_in o) (filter stay all) o (in_filter stay o all (in_all o i k) (ap not q)) (same_self (event_in o)) in
      let g = f.0 in
      let l = from_all g (in_back stay g all f.1).0 in
      let e : event_in g ≡ event_in o = same_is (event_in g) (event_in o) f.2 in
      let here : In g (open_of old rs i) = same_place o g i l.0 k l.1 (ap (same_event (event_in o)) e ∙ same_self (event_in o)) in
      let s = same_trigger o g i k here in
      let origin : origin_of next.origins (event_in o) ≡ Some (origin_in g) = f.3 in
      record {
        at = on;
        its_home = ap (home_by conf (event_in o)) origin ∙ ap (λ x. unwrap_or x 0) (ap₂ (id_named conf) (sym s.host) (sym s.name) ∙ on.named);
        its_rank = ap (rank_by conf (event_in o)) origin ∙ each_at (λ (x : Open). x.rank ≡ rank_of old (event_in x)) (open_of old rs i) (rank_kept old rs i) g here ∙ ap (rank_of old) e;
      }

  -- nothing lands at a trigger that is no one's
  module _ (t : ℕ) (nobody : (o : Open) (i : ℕ) → In o (open_of old rs i) → (s : GoesOn conf o.problem) → s.id ≡ t → ⊥) where
    nowhere : (o : Open) (i : ℕ) → In o (open_of old rs i) → Agrees old next t 0 more (λ x. false) (none_open next number now t gone) (no_steps number now gone) o
    nowhere o i k = record {
      found = ap (λ b. (home next (event_in o) == t) && not b) (recovered o i k) ∙ go (is_gone conf o) refl;
      rank = λ e. absurd (not_off (home old (event_in o) == 0) e);
    }
      where
        go : (b : Bool) → is_gone conf o ≡ b → ((home next (event_in o) == t) && not b) ≡ ((home old (event_in o) == 0) && false)
        go true q = off_both (home next (event_in o) == t) (home old (event_in o) == 0)
        go false q = at (home next (event_in o) == t) refl
          where
            at : (c : Bool) → (home next (event_in o) == t) ≡ c → (c && true) ≡ ((home old (event_in o) == 0) && false)
            at true r = let s = stays o i k q in absurd (nobody o i k s.at (sym s.its_home ∙ eqb-true (home next (event_in o)) t r))
            at false r = off_both false (home old (event_in o) == 0)

    nothing_there : open_of next (rs ++ more) t ≡ []
    nothing_there = kept_open old next t 0 more (λ x. false) (none_open next number now t gone) (no_steps number now gone) rs nowhere ∙ filter_nothing (open_of old rs 0)

  -- at a trigger that is there
  module _ (t : ℕ) (u : Trigger) (there : at_id conf.triggers t ≡ Some u) where
    -- a problem that goes on there has its names
    own_names : (o : Open) (s : GoesOn conf o.problem) → s.id ≡ t → (host_of o.problem ≡ host_of_trigger conf u) × (trigger_name_of o.problem ≡ u.name)
    own_names o s e =
        let f = named_found conf (host_of o.problem) (trigger_name_of o.problem) s.id s.named in
        let same : f.trigger ≡ u = some_one f.trigger u (sym f.there ∙ ap (at_id conf.triggers) e ∙ there) in
        (sym f.its_host ∙ ap (host_of_trigger conf) same, sym f.its_name ∙ ap (λ (x : Trigger). x.name) same)

    -- and a problem with its names, if it goes on, goes on there
    goes_there : (o : Open) (s : GoesOn conf o.problem) → host_of o.problem ≡ host_of_trigger conf u → trigger_name_of o.problem ≡ u.name → s.id ≡ t
    goes_there o s h n = some_one s.id t (sym s.named ∙ ap₂ (id_named conf) h n ∙ named_is conf distinct_new t u there)

    -- the old trigger of an open problem is found by its names
    old_named : (o : Open) (i : ℕ) → In o (open_of old rs i) → id_named old.conf (host_of o.problem) (trigger_name_of o.problem) ≡ Some i
    old_named o i k = let a = told_at o i k in ap₂ (id_named old.conf) a.host a.name ∙ named_is old.conf distinct i a.trigger a.there

    module _ (j : ℕ) (found : id_named old.conf (host_of_trigger conf u) u.name ≡ Some j) where
      -- the problems of the old trigger have the names of the new one
      its_names : (o : Open) → In o (open_of old rs j) → (host_of o.problem ≡ host_of_trigger conf u) × (trigger_name_of o.problem ≡ u.name)
      its_names o k =
          let a = told_at o j k in
          let f = named_found old.conf (host_of_trigger conf u) u.name j found in
          let same : a.trigger ≡ f.trigger = some_one a.trigger f.trigger (sym a.there ∙ f.there) in
          (a.host ∙ ap (host_of_trigger old.conf) same ∙ f.its_host, a.name ∙ ap (λ (x : Trigger). x.name) same ∙ f.its_name)

      agrees : (o : Open) (i : ℕ) → In o (open_of old rs i) → Agrees old next t j more stay (none_open next number now t gone) (no_steps number now gone) o
      agrees o i k = record {
        found = ap (λ b. (home next (event_in o) == t) && not b) (recovered o i k) ∙ at (is_gone conf o) refl;
        rank = λ e. by_rank (is_gone conf o) refl e;
      }
        where
          at : (b : Bool) → is_gone conf o ≡ b → ((home next (event_in o) == t) && not b) ≡ ((home old (event_in o) == j) && not b)
          at true q = off_both (home next (event_in o) == t) (home old (event_in o) == j)
          at false q =
              let s = stays o i k q in
              ap (λ b. b && true)
              (equal_tests (home next (event_in o)) t (home old (event_in o)) j
              (λ e. let n = own_names o s.at (sym s.its_home ∙ e) in home_is o i k ∙ some_one i j (sym (old_named o i k) ∙ ap₂ (id_named old.conf) n.0 n.1 ∙ found))
              (λ e. let n = its_names o (subst (λ x. In o (open_of old rs x)) (sym (home_is o i k) ∙ e) k) in s.its_home ∙ goes_there o s.at n.0 n.1))

          by_rank : (b : Bool) → is_gone conf o ≡ b → ((home old (event_in o) == j) && not b) ≡ true → rank_of next (event_in o) ≡ rank_of old (event_in o)
          by_rank true q e = absurd (not_off (home old (event_in o) == j) e)
          by_rank false q e = (stays o i k q).its_rank

      its_row : open_of next (rs ++ more) t ≡ filter stay (open_of old rs j)
      its_row = kept_open old next t j more stay (none_open next number now t gone) (no_steps number now gone) rs agrees

      -- they are told right still
      told_there : m ≤ number → (o : Open) → In o (open_of old rs j) → stay o ≡ true → IsTold conf number t o.problem
      told_there l o k q =
          let n = its_names o k in
          let s = goes_on conf o.problem (stays_one (is_one_of o.problem (trigger_for conf o.problem)) q) in
          let e : s.trigger ≡ u = some_one s.trigger u (sym s.there ∙ ap (at_id conf.triggers) (goes_there o s n.0 n.1) ∙ there) in
          record {
            trigger = u;
            there = there;
            host = n.0;
            name = n.1;
            tags = names_are (tags_of o.problem) u.tags (ap (λ (x : Trigger). same_names (tags_of o.problem) x.tags) (sym e) ∙ s.tags);
            upto = let a = (told_at o j k).upto in omega arith;
          }
        where
          stays_one : (b : Bool) → not (not b) ≡ true → b ≡ true
          stays_one true e = refl
          stays_one false e = cc

    nobody_there : id_named old.conf (host_of_trigger conf u) u.name ≡ None → (o : Open) (i : ℕ) → In o (open_of old rs i) → (s : GoesOn conf o.problem) → s.id ≡ t → ⊥
    nobody_there none o i k s e =
        let n = own_names o s e in let z : Some i ≡ None = sym (old_named o i k) ∙ ap₂ (id_named old.conf) n.0 n.1 ∙ none in absurd (cc)

  -- what the search finds at each trigger is what the cells carry
  pub carried_opens : (t : ℕ) → open_of next (rs ++ more) t ≡ rows_carried old.conf conf (open_of old rs) t
  carried_opens t = at (at_id conf.triggers t) refl
    where
      at : (x : Option Trigger) → at_id conf.triggers t ≡ x → open_of next (rs ++ more) t ≡ option_map_or (carried_to old.conf conf (open_of old rs)) x []
      at None e = nothing_there t (λ o i k s q. let z : Some s.trigger ≡ None = sym s.there ∙ ap (at_id conf.triggers) q ∙ e in absurd (cc))
      at (Some u) e = by_name (id_named old.conf (host_of_trigger conf u) u.name) refl
        where
          by_name : (y : Option ℕ) → id_named old.conf (host_of_trigger conf u) u.name ≡ y → open_of next (rs ++ more) t ≡ filter stay (option_map_or (open_of old rs) y [])
          by_name None f = nothing_there t (nobody_there t u e f)
          by_name (Some j) f = its_row t u e j f

  -- and each of them is told right still
  pub told_next : m ≤ number → AreTold next number (rs ++ more)
  told_next l t = subst (Each (λ (o : Open). IsTold conf number t o.problem)) (sym (carried_opens t)) (at (at_id conf.triggers t) refl)
    where
      at : (x : Option Trigger) → at_id conf.triggers t ≡ x → Each (λ (o : Open). IsTold conf number t o.problem) (option_map_or (carried_to old.conf conf (open_of old rs)) x [])
      at None e = tt
      at (Some u) e = by_name (id_named old.conf (host_of_trigger conf u) u.name) refl
        where
          by_name : (y : Option ℕ) → id_named old.conf (host_of_trigger conf u) u.name ≡ y → Each (λ (o : Open). IsTold conf number t o.problem) (filter stay (option_map_or (open_of old rs) y []))
          by_name None f = tt
          by_name (Some j) f = each_filter (λ (o : Open). IsTold conf number t o.problem) stay (open_of old rs j) (λ o k q. told_there t u e j f l o k q)

  -- and no origin is of a later entry
  pub origins_next : m ≤ number → Each (λ (o : Origin). o.event.number ≤ number) next.origins
  origins_next l =
      each_map (λ (o : Origin). o.event.number ≤ number) origin_in (filter stay all)
      (each_kept (λ (o : Open). (event_in o).number ≤ number) stay all
      (each_making old (open_of old rs) (λ (o : Open). (event_in o).number ≤ number)
      (λ i. each_from (λ (o : Open). (event_in o).number ≤ number) (open_of old rs i) (λ o k. let a = (told_at o i k).upto in omega arith))))
