-- On replays no Recovery stands before its Problem, so open problems are those that no Recovery names at all.
use Rattle.std.proofs.Common.{◌≡◌, ℕ, zero, suc, ◌+◌, ◌-◌, ◌<◌, ◌≤◌, ◌==◌, Bool, true, false, cond, not, ◌&&◌, ◌||◌, ◌⊎◌, inl, inr, Option, Some, None, List, [], ◌∷◌, ◌++◌, filter, slice_get, refl, sym, ◌∙◌, ap, subst, append_assoc, append-nil, eqb-true, eq-eqb, ne_eqb, arith}
use Rattle.std.specs.List.{list_any}
use Rattle.std.specs.Prelude.{max}
use Rattle.std.proofs.lemmas.Bool.{cases_order}
use Rattle.zbx_types.specs.Ids.{at_id}
use Rattle.zbx_types.specs.Masters.{depth_by, depth_of}
use Rattle.zbx_types.proofs.RowLemmas.{at_zero, at_suc}
use Rattle.zbx_types.specs.declared.conf.Conf.{Conf}
use Rattle.zbx_types.specs.declared.triggers.Trigger.{Trigger}
use Rattle.zbx_types.specs.declared.items.Item.{Item}
use Rattle.zbx_types.specs.declared.entries.Entry.{Entry}
use Rattle.zbx_types.specs.declared.entries.Entry.TheVariants.{Config, Value, Tick}
use Rattle.zbx_types.specs.declared.entries.Cause2.{Cause2}
use Rattle.zbx_types.specs.declared.entries.Cause2.TheVariants as causes
use Rattle.event_correlation.specs.declared.answer.Closes.{Closes}
use Rattle.zbx_types.specs.declared.entries.EventId.{EventId}
use Rattle.zbx_types.specs.declared.entries.Numbered.{Numbered}
use Rattle.zbx_types.specs.declared.entries.Rec.{Rec}
use Rattle.zbx_types.specs.declared.entries.Rec.TheVariants.{Failure, Problem, Recovery, Step, Message}
use Rattle.zbx_types.specs.declared.entries.Stored.{Stored}
use Rattle.entry_step.specs.Each.{Each, In, EachPair}
use Rattle.std.specs.Str.{bytes_eq}
use Rattle.std.specs.List.{cons_option}
use Rattle.preprocess.specs.Draft.{failure_by, failure_of, failures_of}
use Rattle.preprocess.specs.declared.visit.Visit.{Visit}
use Rattle.preprocess.specs.declared.visit.ItemOutcome.{ItemOutcome}
use Rattle.preprocess.specs.declared.visit.ItemOutcome.TheVariants as outcome
use Rattle.entry_step.proofs.Visited.{Memory}
use Rattle.entry_step.specs.History.{visits_at, memory_of, history_of}
use Rattle.conf_index.specs.Order.{level, by_depth, above_depths, order}
use Rattle.zbx_types.specs.Records.{event_of}
use Rattle.entry_step.specs.Start.{first_start}
use Rattle.trigger_state.specs.Stages.{first_stage, home}
use Rattle.trigger_state.specs.Problems.{event_in, opens, recovers, opened, open_of}
use Rattle.entry_step.specs.Records.{problem_of, ruled, ruled_records, last_records, begun_records, closed_records, verdict_records, evaluated, phase_over, has_call, stores, triggers_at, failures_at, judged_of, out_of, replay}
use Rattle.conf_index.specs.Timed.{is_timed_trigger, timed_triggers}
use Rattle.trigger_state.specs.Verdicts.{is_held}
use Rattle.trigger_state.specs.declared.answer.Verdict.{Verdict}
use Rattle.trigger_state.specs.declared.answer.Verdict.TheVariants.{Nothing, New, Close}
use Rattle.entry_step.specs.Changes.{EachClosed}
use Rattle.entry_step.proofs.Landing.{judged_is, judged_has, evaluated_none}
use Rattle.entry_step.specs.Log.{last_number, first_tick, IsRising}
use Rattle.entry_step.specs.Named.{is_named, host_of, AreDistinct, OpenByNames}
use Rattle.entry_step.specs.Making.{IsAsRecorded, records_upto, MakingIsOrder}
use Rattle.entry_step.specs.NamedInside.{OpenInside}
use Rattle.entry_step.proofs.Making.{Once, pairs_filter, Precedes, Earlier, OfProblem, as_recorded}
use Rattle.std.specs.List.{All}
use Rattle.std.proofs.lemmas.List.Elements.{All-nil, All-cons}
use Rattle.trigger_state.specs.Laws.{OpenFirst}
use Rattle.trigger_state.proofs.Searches.{open_by_test}
use Rattle.entry_step.proofs.Members.{each_append, each_at, each_from, each_sub, and_both}
use Rattle.entry_step.specs.Occasions.{occasion_of}
use Rattle.entry_step.specs.declared.occasions.Occasion.{Occasion}
use Rattle.entry_step.specs.Seen.{shown_values, seen_in}
use Rattle.zbx_types.specs.Records.{same_event}
use Rattle.std.specs.Prelude.{flat_map}
use Rattle.escalations.specs.Escalations.{first_records_of, recovered_records}
use Rattle.entry_step.specs.Due.{IsAbout, by_making, due_for, due_over, due_at}
use Rattle.entry_step.proofs.Said.{each_flat_map, due_about, closed_about, IsQuiet, about_quiet, closed_quiet, begun_quiet}
use Rattle.entry_step.proofs.Closing.{ruled_each}
use Rattle.zbx_types.specs.declared.entries.Held.{Held}
use Rattle.trigger_state.specs.declared.problems.Open.{Open}

-- Each trigger stands once in the order
in_cases : (xs ys : List ℕ) (x : ℕ) → In x (xs ++ ys) → In x xs ⊎ In x ys
in_cases [] ys x i = inr i
in_cases (y ∷ xs) ys x (inl q) = inl (inl q)
in_cases (y ∷ xs) ys x (inr i) = go (in_cases xs ys x i)
  where
    go : In x xs ⊎ In x ys → In x (y ∷ xs) ⊎ In x ys
    go (inl j) = inl (inr j)
    go (inr j) = inr j

once_append : (xs ys : List ℕ) → Once xs → Once ys → ((x : ℕ) → In x xs → In x ys → ⊥) → Once (xs ++ ys)
once_append [] ys a b h = b
once_append (x ∷ xs) ys a b h = (λ i. out (in_cases xs ys x i), once_append xs ys a.1 b (λ y i j. h y (inr i) j))
  where
    out : In x xs ⊎ In x ys → ⊥
    out (inl i) = a.0 i
    out (inr j) = h x (inl refl) j

in_filter : (p : ℕ → Bool) (xs : List ℕ) (x : ℕ) → In x (filter p xs) → In x xs
in_filter p [] x i = i
in_filter p (y ∷ ys) x i = go (p y) (in_filter p ys x) i
  where
    go : (b : Bool) → (In x (filter p ys) → In x ys) → In x (cond b (y ∷ filter p ys) (filter p ys)) → In x (y ∷ ys)
    go true ih (inl q) = inl q
    go true ih (inr j) = inr (ih j)
    go false ih j = inr (ih j)

once_filter : (p : ℕ → Bool) (xs : List ℕ) → Once xs → Once (filter p xs)
once_filter p [] o = tt
once_filter p (x ∷ xs) o = go (p x) (once_filter p xs o.1)
  where
    go : (b : Bool) → Once (filter p xs) → Once (cond b (x ∷ filter p xs) (filter p xs))
    go true k = (λ i. o.0 (in_filter p xs x i), k)
    go false k = k

-- an id of a level is that of a trigger with its depth
abbrev AtDepth : List Trigger → ℕ → ℕ → Type 0
AtDepth ts place depth = (t : Trigger) × (slice_get ts place ≡ Some t) × (t.depth ≡ depth)

level_in : (depth id : ℕ) (ts : List Trigger) (x : ℕ) → In x (level depth id ts) → (id ≤ x) × AtDepth ts (x - id) depth
level_in depth id [] x i = absurd i
level_in depth id (t ∷ ts) x i = go (level_in depth (id + 1) ts x) (t.depth == depth) refl i
  where
    later : (In x (level depth (id + 1) ts) → (id + 1 ≤ x) × AtDepth ts (x - (id + 1)) depth) → In x (level depth (id + 1) ts) → (id ≤ x) × AtDepth (t ∷ ts) (x - id) depth
    later ih j =
        let r = ih j in
        let l = r.0 in
        let at : AtDepth ts (x - (id + 1)) depth = r.1 in
        let next : x - id ≡ suc (x - (id + 1)) = omega arith in
        let bound : id ≤ x = omega arith in
        (bound, (at.0, ap (slice_get (t ∷ ts)) next ∙ at.1, at.2))

    go : (In x (level depth (id + 1) ts) → (id + 1 ≤ x) × AtDepth ts (x - (id + 1)) depth) → (b : Bool) → (t.depth == depth) ≡ b → In x (cond b (id ∷ level depth (id + 1) ts) (level depth (id + 1) ts)) → (id ≤ x) × AtDepth (t ∷ ts) (x - id) depth
    go ih true e (inl q) =
        let bound : id ≤ x = omega arith in
        let here : x - id ≡ zero = omega arith in
        (bound, (t, ap (slice_get (t ∷ ts)) here, eqb-true t.depth depth e))
    go ih true e (inr j) = later ih j
    go ih false e j = later ih j

once_level : (depth id : ℕ) (ts : List Trigger) → Once (level depth id ts)
once_level depth id [] = tt
once_level depth id (t ∷ ts) = go (t.depth == depth) (once_level depth (id + 1) ts)
  where
    go : (b : Bool) → Once (level depth (id + 1) ts) → Once (cond b (id ∷ level depth (id + 1) ts) (level depth (id + 1) ts))
    go true k = (λ i. (let r = level_in depth (id + 1) ts id i in let l = r.0 in absurd (omega arith)), k)
    go false k = k

below_in : (ts : List Trigger) (n x : ℕ) → In x (by_depth ts n) → (depth : ℕ) × (depth < n) × In x (level depth 1 ts)
below_in ts zero x i = absurd i
below_in ts (suc n) x i = go (below_in ts n x) (in_cases (by_depth ts n) (level n 1 ts) x i)
  where
    go : (In x (by_depth ts n) → (depth : ℕ) × (depth < n) × In x (level depth 1 ts)) → In x (by_depth ts n) ⊎ In x (level n 1 ts) → (depth : ℕ) × (depth < suc n) × In x (level depth 1 ts)
    go ih (inl j) = let r = ih j in let l : r.0 < n = r.1 in let m : r.0 < suc n = omega arith in (r.0, m, r.2)
    go ih (inr j) = let m : n < suc n = omega arith in (n, m, j)

same_depth : (ts : List Trigger) (place a b : ℕ) → AtDepth ts place a → AtDepth ts place b → a ≡ b
same_depth ts place a b x y = let q : Some x.0 ≡ Some y.0 = sym x.1 ∙ y.1 in let r : x.0 ≡ y.0 = cc in sym x.2 ∙ ap (λ t. t.depth) r ∙ y.2

once_below : (ts : List Trigger) (n : ℕ) → Once (by_depth ts n)
once_below ts zero = tt
once_below ts (suc n) = once_append (by_depth ts n) (level n 1 ts) (once_below ts n) (once_level n 1 ts) apart
  where
    apart : (x : ℕ) → In x (by_depth ts n) → In x (level n 1 ts) → ⊥
    apart x i j =
        let r = below_in ts n x i in
        let l : r.0 < n = r.1 in
        let a = level_in r.0 1 ts x r.2 in
        let b = level_in n 1 ts x j in
        let e : r.0 ≡ n = same_depth ts (x - 1) r.0 n a.1 b.1 in absurd (omega arith)

pub once_order : (conf : Conf) → Once (order conf)
unfolding order
once_order conf = once_below conf.triggers (above_depths 0 conf.triggers)

-- A trigger is evaluated before another one: by depth, and then by id
abbrev IsAhead : Conf → ℕ → ℕ → Type 0
IsAhead conf x y = (depth_of conf x < depth_of conf y) ⊎ ((depth_of conf x ≡ depth_of conf y) × (x < y))

pairs_append : {A : Type 0} (R : A → A → Type 0) (xs ys : List A) → EachPair R xs → EachPair R ys → ((x y : A) → In x xs → In y ys → R x y) → EachPair R (xs ++ ys)
pairs_append R [] ys a b h = b
pairs_append R (x ∷ xs) ys a b h = (each_append (R x) xs ys a.0 (each_from (R x) ys (λ y j. h x y (inl refl) j)), pairs_append R xs ys a.1 b (λ y z i j. h y z (inr i) j))

pairs_from : {A : Type 0} (R S : A → A → Type 0) (xs : List A) → ((x y : A) → In x xs → In y xs → R x y → S x y) → EachPair R xs → EachPair S xs
pairs_from R S [] h e = tt
pairs_from R S (x ∷ xs) h e = (each_from (S x) xs (λ y j. h x y (inl refl) (inr j) (each_at (R x) xs e.0 y j)), pairs_from R S xs (λ y z i j r. h y z (inr i) (inr j) r) e.1)

depth_at : (conf : Conf) (x depth : ℕ) → 1 ≤ x → AtDepth conf.triggers (x - 1) depth → depth_of conf x ≡ depth
depth_at conf zero depth l at = absurd (omega arith)
depth_at conf (suc k) depth l at = let same : suc k - 1 ≡ k = omega arith in ap depth_by (at_suc conf.triggers k ∙ sym (ap (slice_get conf.triggers) same) ∙ at.1) ∙ at.2

level_rises : (depth id : ℕ) (ts : List Trigger) → EachPair (λ x y. x < y) (level depth id ts)
level_rises depth id [] = tt
level_rises depth id (t ∷ ts) = go (t.depth == depth) (level_rises depth (id + 1) ts)
  where
    go : (b : Bool) → EachPair (λ x y. x < y) (level depth (id + 1) ts) → EachPair (λ x y. x < y) (cond b (id ∷ level depth (id + 1) ts) (level depth (id + 1) ts))
    go true ih = (each_from (λ y. id < y) (level depth (id + 1) ts) (λ y j. (let l = (level_in depth (id + 1) ts y j).0 in omega arith)), ih)
    go false ih = ih

depth_in : (conf : Conf) (depth x : ℕ) → In x (level depth 1 conf.triggers) → depth_of conf x ≡ depth
depth_in conf depth x i = let r = level_in depth 1 conf.triggers x i in depth_at conf x depth r.0 r.1

below_rises : (conf : Conf) (n : ℕ) → EachPair (IsAhead conf) (by_depth conf.triggers n)
below_rises conf zero = tt
below_rises conf (suc n) =
    pairs_append (IsAhead conf) (by_depth conf.triggers n) (level n 1 conf.triggers) (below_rises conf n)
    (pairs_from (λ x y. x < y) (IsAhead conf) (level n 1 conf.triggers) (λ x y i j l. inr (depth_in conf n x i ∙ sym (depth_in conf n y j), l)) (level_rises n 1 conf.triggers)) ahead
  where
    ahead : (x y : ℕ) → In x (by_depth conf.triggers n) → In y (level n 1 conf.triggers) → IsAhead conf x y
    ahead x y i j =
        let r = below_in conf.triggers n x i in
        let l : r.0 < n = r.1 in
        let a : depth_of conf x ≡ r.0 = depth_in conf r.0 x r.2 in
        let b : depth_of conf y ≡ n = depth_in conf n y j in inl (omega arith)

order_rises : (conf : Conf) → EachPair (IsAhead conf) (order conf)
unfolding order
order_rises conf = below_rises conf (above_depths 0 conf.triggers)

-- and each trigger that is there stands in it
level_has : (depth id place : ℕ) (ts : List Trigger) (t : Trigger) → slice_get ts place ≡ Some t → t.depth ≡ depth → In (id + place) (level depth id ts)
level_has depth id place [] t q d = cc
level_has depth id zero (x ∷ ts) t q d =
    let same : x ≡ t = cc in
    let here : id + zero ≡ id = omega arith in
    let test : (x.depth == depth) ≡ true = eq-eqb x.depth depth (ap (λ y. y.depth) same ∙ d) in rw test (inl here)
level_has depth id (suc place) (x ∷ ts) t q d = go (x.depth == depth) (subst (λ i. In i (level depth (id + 1) ts)) next (level_has depth (id + 1) place ts t q d))
  where
    next : (id + 1) + place ≡ id + suc place
    next = omega arith

    go : (b : Bool) → In (id + suc place) (level depth (id + 1) ts) → In (id + suc place) (cond b (id ∷ level depth (id + 1) ts) (level depth (id + 1) ts))
    go true j = inr j
    go false j = j

in_left : (xs ys : List ℕ) (x : ℕ) → In x xs → In x (xs ++ ys)
in_left [] ys x i = absurd i
in_left (y ∷ xs) ys x (inl q) = inl q
in_left (y ∷ xs) ys x (inr i) = inr (in_left xs ys x i)

in_right : (xs ys : List ℕ) (x : ℕ) → In x ys → In x (xs ++ ys)
in_right [] ys x i = i
in_right (y ∷ xs) ys x i = inr (in_right xs ys x i)

below_has : (ts : List Trigger) (n depth x : ℕ) → depth < n → In x (level depth 1 ts) → In x (by_depth ts n)
below_has ts zero depth x l i = absurd (omega arith)
below_has ts (suc n) depth x l i = go (λ m. below_has ts n depth x m i) (cases_order depth n)
  where
    go : (depth < n → In x (by_depth ts n)) → (depth ≡ n) ⊎ ((depth < n) ⊎ (n < depth)) → In x (by_depth ts n ++ level n 1 ts)
    go ih (inl q) = in_right (by_depth ts n) (level n 1 ts) x (subst (λ d. In x (level d 1 ts)) q i)
    go ih (inr (inl m)) = in_left (by_depth ts n) (level n 1 ts) x (ih m)
    go ih (inr (inr m)) = absurd (omega arith)

above_least : (bound : ℕ) (ts : List Trigger) → bound ≤ above_depths bound ts
above_least bound [] = omega arith
above_least bound (t ∷ ts) = let l = above_least (max bound (t.depth + 1)) ts in omega (arith, l)

above_each : (bound place : ℕ) (ts : List Trigger) (t : Trigger) → slice_get ts place ≡ Some t → t.depth < above_depths bound ts
above_each bound place [] t q = cc
above_each bound zero (x ∷ ts) t q =
    let same : x ≡ t = cc in
    let is : x.depth ≡ t.depth = ap (λ y. y.depth) same in
    let l = above_least (max bound (x.depth + 1)) ts in omega (arith, l, is)
above_each bound (suc place) (x ∷ ts) t q = above_each (max bound (x.depth + 1)) place ts t q

pub stands : (conf : Conf) (id : ℕ) (t : Trigger) → at_id conf.triggers id ≡ Some t → In id (order conf)
unfolding order
stands conf zero t q = let none : None ≡ Some t = sym (at_zero conf.triggers) ∙ q in absurd (cc)
stands conf (suc k) t q =
    let at : slice_get conf.triggers k ≡ Some t = sym (at_suc conf.triggers k) ∙ q in
    let next : 1 + k ≡ suc k = omega arith in
    below_has conf.triggers (above_depths 0 conf.triggers) t.depth (suc k) (above_each 0 k conf.triggers t at)
    (subst (λ i. In i (level t.depth 1 conf.triggers)) next (level_has t.depth 1 k conf.triggers t at refl))

-- Events of earlier entries, or of triggers that are done
abbrev Done : ℕ → List ℕ → EventId → Type 0
Done n done event = (event.number < n) ⊎ ((event.number ≡ n) × In event.trigger done)

abbrev IsDone : ℕ → List ℕ → Rec → Type 0
IsDone n done (Problem event now severity suppressed host trigger name tags) = Done n done event
IsDone n done (Recovery event by now cause) = Done n done event
IsDone n done (Failure number host key why) = Unit {0}
IsDone n done (Step event action step now) = Unit {0}
IsDone n done (Message event action step recipient subject body) = Unit {0}

-- a record isn't the recovery of a problem that comes behind it
abbrev NotAgain : Rec → Rec → Type 0
NotAgain r (Problem event now severity suppressed host trigger name tags) = recovers event r ≡ false
NotAgain r (Recovery event by now cause) = Unit {0}
NotAgain r (Failure number host key why) = Unit {0}
NotAgain r (Step event action step now) = Unit {0}
NotAgain r (Message event action step recipient subject body) = Unit {0}

-- and a Problem precedes one that comes behind it
abbrev Comes : Conf → Rec → Rec → Type 0
Comes conf r p = NotAgain r p × Earlier (first_stage conf) r p

abbrev NoEarly : Conf → List Rec → Type 0
NoEarly conf [] = Unit {0}
NoEarly conf (r ∷ rs) = Each (Comes conf r) rs × NoEarly conf rs

-- a Problem has the names of its trigger
abbrev IsOf : Conf → Rec → Type 0
IsOf conf (Problem event now severity suppressed host trigger name tags) = (t : Trigger) × (at_id conf.triggers event.trigger ≡ Some t) × (host ≡ host_of conf t) × (trigger ≡ t.name)
IsOf conf (Recovery event by now cause) = Unit {0}
IsOf conf (Failure number host key why) = Unit {0}
IsOf conf (Step event action step now) = Unit {0}
IsOf conf (Message event action step recipient subject body) = Unit {0}

record Right (conf : Conf) (n : ℕ) (done : List ℕ) (rs : List Rec) : Type 0 where
  early : NoEarly conf rs
  ids : Each (IsDone n done) rs
  named : Each (IsOf conf) rs

early_append : (conf : Conf) (xs ys : List Rec) → NoEarly conf xs → NoEarly conf ys → Each (λ x. Each (Comes conf x) ys) xs → NoEarly conf (xs ++ ys)
early_append conf [] ys a b c = b
early_append conf (x ∷ xs) ys a b c = (each_append (Comes conf x) xs ys a.0 c.0, early_append conf xs ys a.1 b c.1)

right_append : (conf : Conf) (n : ℕ) (done : List ℕ) (xs ys : List Rec) → Right conf n done xs → Right conf n done ys → Each (λ x. Each (Comes conf x) ys) xs → Right conf n done (xs ++ ys)
right_append conf n done xs ys a b c = record { early = early_append conf xs ys a.early b.early c; ids = each_append (IsDone n done) xs ys a.ids b.ids; named = each_append (IsOf conf) xs ys a.named b.named }

done_more : (n : ℕ) (done : List ℕ) (id : ℕ) (event : EventId) → Done n done event → Done n (id ∷ done) event
done_more n done id event (inl l) = inl l
done_more n done id event (inr d) = inr (d.0, inr d.1)

is_done_sub : (n m : ℕ) (a b : List ℕ) → ((event : EventId) → Done n a event → Done m b event) → (r : Rec) → IsDone n a r → IsDone m b r
is_done_sub n m a b h (Problem event now severity suppressed host trigger name tags) d = h event d
is_done_sub n m a b h (Recovery event by now cause) d = h event d
is_done_sub n m a b h (Failure number host key why) d = tt
is_done_sub n m a b h (Step event action step now) d = tt
is_done_sub n m a b h (Message event action step recipient subject body) d = tt

right_sub : (conf : Conf) (n m : ℕ) (a b : List ℕ) (rs : List Rec) → ((event : EventId) → Done n a event → Done m b event) → Right conf n a rs → Right conf m b rs
right_sub conf n m a b rs h r = record { early = r.early; ids = each_sub (IsDone n a) (IsDone m b) rs (is_done_sub n m a b h) r.ids; named = r.named }

-- what is said of each event is said of that of a Problem, and what is said of a Problem says nothing of a quiet record
of_each : (P : EventId → Type 0) → ((event : EventId) → P event) → (r : Rec) → OfProblem P r
of_each P h (Problem event now severity suppressed host trigger name tags) = h event
of_each P h (Recovery event by now cause) = tt
of_each P h (Failure number host key why) = tt
of_each P h (Step event action step now) = tt
of_each P h (Message event action step recipient subject body) = tt

quiet_of : (P : EventId → Type 0) (r : Rec) → IsQuiet r → OfProblem P r
quiet_of P (Problem event now severity suppressed host trigger name tags) q = absurd q
quiet_of P (Recovery event by now cause) q = tt
quiet_of P (Failure number host key why) q = tt
quiet_of P (Step event action step now) q = tt
quiet_of P (Message event action step recipient subject body) q = tt

quiet_again : (conf : Conf) (r : Rec) (qs : List Rec) → Each IsQuiet qs → Each (Comes conf r) qs
quiet_again conf r qs e = each_sub IsQuiet (Comes conf r) qs (λ x q. (go x q, of_each (λ v. OfProblem (Precedes (first_stage conf) v) x) (λ v. quiet_of (Precedes (first_stage conf) v) x q) r)) e
  where
    go : (x : Rec) → IsQuiet x → NotAgain r x
    go (Problem event now severity suppressed host trigger name tags) q = absurd q
    go (Recovery event by now cause) q = tt
    go (Failure number host key why) q = tt
    go (Step event action step now) q = tt
    go (Message event action step recipient subject body) q = tt

quiet_all : (conf : Conf) (xs qs : List Rec) → Each IsQuiet qs → Each (λ x. Each (Comes conf x) qs) xs
quiet_all conf [] qs e = tt
quiet_all conf (x ∷ xs) qs e = (quiet_again conf x qs e, quiet_all conf xs qs e)

quiet_early : (conf : Conf) (qs : List Rec) → Each IsQuiet qs → NoEarly conf qs
quiet_early conf [] e = tt
quiet_early conf (q ∷ qs) e = (quiet_again conf q qs e.1, quiet_early conf qs e.1)

quiet_named : (conf : Conf) (qs : List Rec) → Each IsQuiet qs → Each (IsOf conf) qs
quiet_named conf qs e = each_sub IsQuiet (IsOf conf) qs go e
  where
    go : (x : Rec) → IsQuiet x → IsOf conf x
    go (Problem event now severity suppressed host trigger name tags) q = absurd q
    go (Recovery event by now cause) q = tt
    go (Failure number host key why) q = tt
    go (Step event action step now) q = tt
    go (Message event action step recipient subject body) q = tt

-- the events of open problems are done
open_done : (conf : Conf) (n : ℕ) (done : List ℕ) (rs : List Rec) (id : ℕ) → Each (IsDone n done) rs → Each (λ o. Done n done (event_in o)) (open_of (first_stage conf) rs id)
open_done conf n done [] id e = tt
open_done conf n done (r ∷ rs) id e = go (opens (first_stage conf) id r) refl (not (list_any (recovers (event_of r)) rs)) (open_done conf n done rs id e.1)
  where
    own : (r : Rec) → IsDone n done r → opens (first_stage conf) id r ≡ true → Done n done (event_of r)
    own (Problem event now severity suppressed host trigger name tags) d q = d
    own (Recovery event by now cause) d q = cc
    own (Failure number host key why) d q = cc
    own (Step event action step now) d q = cc
    own (Message event action step recipient subject body) d q = cc

    go : (a : Bool) → opens (first_stage conf) id r ≡ a → (b : Bool) → Each (λ o. Done n done (event_in o)) (open_of (first_stage conf) rs id) → Each (λ o. Done n done (event_in o)) (cond (a && b) (opened (first_stage conf) r rs ∷ open_of (first_stage conf) rs id) (open_of (first_stage conf) rs id))
    go true q true ih = (own r e.0 q, ih)
    go true q false ih = ih
    go false q b ih = ih

about_right : (e : EventId) (n : ℕ) (done : List ℕ) (rs : List Rec) → Each (IsAbout e) rs → Each (IsDone n done) rs
about_right e n done rs a = each_sub (IsAbout e) (IsDone n done) rs right a
  where
    right : (r : Rec) → IsAbout e r → IsDone n done r
    right (Step event action step now) is = tt
    right (Message event action step recipient subject body) is = tt
    right (Failure number host key why) is = tt
    right (Problem event now severity suppressed host trigger name tags) is = absurd is
    right (Recovery event by now cause) is = absurd is

closed_right : (conf : Conf) (n now : ℕ) (cause : Cause2) (os : EventId → List Open) (done : List ℕ) (events : List EventId) → Each (Done n done) events → Each (IsDone n done) (flat_map (λ e. closed_records conf n now cause (os e) e) events)
closed_right conf n now cause os done [] e = tt
closed_right conf n now cause os done (x ∷ xs) e =
    let sent : List Rec = flat_map (λ o. recovered_records conf o.problem o.steps now) (filter (λ o. same_event (event_in o) x) (os x)) in
    (e.0, each_append (IsDone n done) sent (flat_map (λ y. closed_records conf n now cause (os y) y) xs) (about_right x n done sent (closed_about x x conf now (os x))) (closed_right conf n now cause os done xs e.1))

last_right : (conf : Conf) (n now id : ℕ) (done : List ℕ) (problem : Rec) (is_closed : Bool) → Done n done (event_of problem) → Each (IsDone n done) (last_records conf n now id problem is_closed)
last_right conf n now id done problem true d = (d, tt)
last_right conf n now id done problem false d = about_right (event_of problem) n done (first_records_of conf id problem now) (due_about conf id problem [] now)

quiet_right : (conf : Conf) (n : ℕ) (done : List ℕ) (qs : List Rec) → Each IsQuiet qs → Each (IsDone n done) qs → Right conf n done qs
quiet_right conf n done qs q d = record { early = quiet_early conf qs q; ids = d; named = quiet_named conf qs q }

-- a new problem behind what is done
fresh : (n id : ℕ) (done : List ℕ) → (In id done → ⊥) → (r : Rec) → IsDone n done r → recovers (record { number = n; trigger = id }) r ≡ false
fresh n id done out (Problem event now severity suppressed host trigger name tags) d = refl
fresh n id done out (Failure number host key why) d = refl
fresh n id done out (Step event action step now) d = refl
fresh n id done out (Message event action step recipient subject body) d = refl
fresh n id done out (Recovery event by now cause) (inl l) = ap (λ b. b && (id == event.trigger)) (ne_eqb n event.number (λ q. absurd (omega arith)))
fresh n id done out (Recovery event by now cause) (inr d) = ap (λ b. (n == event.number) && b) (ne_eqb id event.trigger (λ q. out (subst (λ t. In t done) (sym q) d.1))) ∙ off (n == event.number)
  where
    off : (b : Bool) → (b && false) ≡ false
    off true = refl
    off false = refl

-- which precedes it
precedes_new : (conf : Conf) (n id : ℕ) (done : List ℕ) → ((x : ℕ) → In x done → IsAhead conf x id) → (r : Rec) → IsDone n done r → OfProblem (λ v. Precedes (first_stage conf) v (record { number = n; trigger = id })) r
precedes_new conf n id done ahead (Problem event now severity suppressed host trigger name tags) (inl l) = inl l
precedes_new conf n id done ahead (Problem event now severity suppressed host trigger name tags) (inr d) = inr (d.0, ahead event.trigger d.1)
precedes_new conf n id done ahead (Recovery event by now cause) d = tt
precedes_new conf n id done ahead (Failure number host key why) d = tt
precedes_new conf n id done ahead (Step event action step now) d = tt
precedes_new conf n id done ahead (Message event action step recipient subject body) d = tt

module _ (conf : Conf) (occasion : Occasion) (items : ℕ → List Stored) (done : List ℕ) (id : ℕ) (rs : List Rec) (right : Right conf occasion.number done rs) (out : In id done → ⊥) (ahead : (x : ℕ) → In x done → IsAhead conf x id) where
  abbrev n : ℕ
  n = occasion.number

  abbrev now : ℕ
  now = occasion.now

  abbrev Next : List Rec → Type 0
  Next new = Right conf n (id ∷ done) (rs ++ new)

  weaker : Right conf n (id ∷ done) rs
  weaker = right_sub conf n n done (id ∷ done) rs (λ event d. done_more n done id event d) right

  none_next : Next []
  none_next = subst (Right conf n (id ∷ done)) (sym (append-nil rs)) weaker

  close_next : (os : List Open) (events : List EventId) → Each (Done n (id ∷ done)) events → Next (flat_map (closed_records conf n now causes.Expression os) events)
  close_next os events e =
      let made : List Rec = flat_map (closed_records conf n now causes.Expression os) events in
      let quiet = closed_quiet conf n now causes.Expression (λ x. os) events in
      right_append conf n (id ∷ done) rs made weaker (quiet_right conf n (id ∷ done) made quiet (closed_right conf n now causes.Expression (λ x. os) (id ∷ done) events e)) (quiet_all conf rs made quiet)

  begin_next : (values : List (Option Held)) (t : Trigger) → at_id conf.triggers id ≡ Some t → (all : ℕ → List Open) → ((j : ℕ) → Each (λ o. Done n (id ∷ done) (event_in o)) (all j)) → Next (begun_records (first_stage conf) n now all id (problem_of conf n now values id t))
  unfolding problem_of
  begin_next values t is all old =
      let problem : Rec = problem_of conf n now values id t in
      let closes : Closes = ruled (first_stage conf) problem all in
      let ends : List Rec = ruled_records (first_stage conf) n now all closes.old in
      let last : List Rec = last_records conf n now id problem closes.new in
      let quiet = begun_quiet (first_stage conf) n now all id problem closes in
      let ended = closed_right conf n now causes.Correlation (λ e. all (home (first_stage conf) e)) (id ∷ done) closes.old (ruled_each (Done n (id ∷ done)) (first_stage conf) problem all old) in
      let its = each_append (IsDone n (id ∷ done)) ends last ended (last_right conf n now id (id ∷ done) problem closes.new (inr (refl, inl refl))) in
      right_append conf n (id ∷ done) rs (problem ∷ ends ++ last) weaker
      (record { early = (quiet_again conf problem (ends ++ last) quiet, quiet_early conf (ends ++ last) quiet); ids = (inr (refl, inl refl), its); named = ((t, is, refl, refl), quiet_named conf (ends ++ last) quiet) })
      (each_sub (IsDone n done) (λ x. Each (Comes conf x) (problem ∷ ends ++ last)) rs (λ x d. ((fresh n id done out x d, precedes_new conf n id done ahead x d), quiet_again conf x (ends ++ last) quiet)) right.ids)

  verdict_next : (values : List (Option Held)) (t : Trigger) → at_id conf.triggers id ≡ Some t → (all : ℕ → List Open) → ((j : ℕ) → Each (λ o. Done n (id ∷ done) (event_in o)) (all j)) → (v : Verdict) → EachClosed (Done n (id ∷ done)) v → Next (verdict_records (first_stage conf) n now values id t all v)
  unfolding verdict_records
  verdict_next values t is all old Nothing h = none_next
  verdict_next values t is all old New h = begin_next values t is all old
  verdict_next values t is all old (Close events) h = close_next (all id) events h

  one_next : Next (evaluated (first_stage conf) occasion items (open_of (first_stage conf) rs) id)
  one_next = go (at_id conf.triggers id) refl
    where
      old : (j : ℕ) → Each (λ o. Done n (id ∷ done) (event_in o)) (open_of (first_stage conf) rs j)
      old j = open_done conf n (id ∷ done) rs j weaker.ids

      go : (t : Option Trigger) → at_id conf.triggers id ≡ t → Next (evaluated (first_stage conf) occasion items (open_of (first_stage conf) rs) id)
      go None e = subst Next (sym (evaluated_none (first_stage conf) occasion items (open_of (first_stage conf) rs) id e)) none_next
      go (Some t) e =
          subst Next (sym (judged_is (first_stage conf) occasion items (open_of (first_stage conf) rs) id t e))
          (judged_has (Done n (id ∷ done)) Next (first_stage conf) occasion (seen_in items occasion conf.utc_offset t) id t (is_held conf (open_of (first_stage conf) rs) id) (open_of (first_stage conf) rs) (verdict_next (shown_values items occasion.now t) t e (open_of (first_stage conf) rs) old) (old id))

phase_next : (conf : Conf) (occasion : Occasion) (items : ℕ → List Stored) (done ids : List ℕ) (rs : List Rec) → Right conf occasion.number done rs → Once ids → ((x : ℕ) → In x ids → In x done → ⊥) → EachPair (IsAhead conf) ids → ((x y : ℕ) → In x done → In y ids → IsAhead conf x y)
    → (all : List ℕ) × Right conf occasion.number all (rs ++ phase_over (first_stage conf) (evaluated (first_stage conf) occasion items) rs ids)
phase_next conf occasion items done [] rs right once apart sorted before = (done, subst (Right conf occasion.number done) (sym (append-nil rs)) right)
phase_next conf occasion items done (id ∷ ids) rs right once apart sorted before =
    let new = evaluated (first_stage conf) occasion items (open_of (first_stage conf) rs) id in
    let r = phase_next conf occasion items (id ∷ done) ids (rs ++ new) (one_next conf occasion items done id rs right (apart id (inl refl)) (λ x i. before x id i (inl refl))) once.1 still sorted.1 later in
    (r.0, subst (Right conf occasion.number r.0) (append_assoc rs new (phase_over (first_stage conf) (evaluated (first_stage conf) occasion items) (rs ++ new) ids)) r.1)
  where
    still : (x : ℕ) → In x ids → In x (id ∷ done) → ⊥
    still x i (inl q) = once.0 (subst (λ y. In y ids) q i)
    still x i (inr j) = apart x (inr i) j

    later : (x y : ℕ) → In x (id ∷ done) → In y ids → IsAhead conf x y
    later x y (inl q) j = subst (λ z. IsAhead conf z y) (sym q) (each_at (IsAhead conf id) ids sorted.0 y j)
    later x y (inr i) j = before x y i (inr j)

abbrev AreQuiet : ℕ → List Rec → Type 0
AreQuiet number rs = Each IsQuiet rs × Each (IsDone number []) rs

pub failures_quiet : (conf : Conf) (memory : Memory) (number : ℕ) (entry : Entry) → AreQuiet number (failures_at conf memory number entry)
unfolding failures_at
failures_quiet conf memory number entry = go (visits_at conf memory number entry)
  where
    by : (rest : List Rec) → AreQuiet number rest → (x : Option Item) (why : List ℕ) → AreQuiet number (cons_option (failure_by conf number why x) rest)
    by rest h None why = h
    by rest h (Some item) why = ((tt, h.0), (tt, h.1))

    one : (v : Visit) (rest : List Rec) → AreQuiet number rest → (o : ItemOutcome) → AreQuiet number (cons_option (failure_of conf number v o) rest)
    one v rest h (outcome.Stored s) = h
    one v rest h outcome.Discarded = h
    one v rest h (outcome.Failed why) = by rest h (at_id conf.items v.item) why

    go : (visits : List Visit) → AreQuiet number (failures_of conf number visits)
    go [] = (tt, tt)
    go (v ∷ visits) = one v (failures_of conf number visits) (go visits) v.outcome

pub once_triggers : (conf : Conf) (memory : Memory) (number : ℕ) (entry : Entry) → Once (triggers_at conf memory number entry)
unfolding triggers_at timed_triggers
once_triggers conf memory number (Config now text) = tt
once_triggers conf memory number (Tick now) = once_filter (λ id. is_timed_trigger (at_id conf.triggers id)) (order conf) (once_order conf)
once_triggers conf memory number (Value now item time value) = once_filter (λ id. has_call (stores conf memory number (Value now item time value)) (at_id conf.triggers id)) (order conf) (once_order conf)

rising_triggers : (conf : Conf) (memory : Memory) (number : ℕ) (entry : Entry) → EachPair (IsAhead conf) (triggers_at conf memory number entry)
unfolding triggers_at timed_triggers
rising_triggers conf memory number (Config now text) = tt
rising_triggers conf memory number (Tick now) = pairs_filter (IsAhead conf) (λ id. is_timed_trigger (at_id conf.triggers id)) (order conf) (order_rises conf)
rising_triggers conf memory number (Value now item time value) = pairs_filter (IsAhead conf) (λ id. has_call (stores conf memory number (Value now item time value)) (at_id conf.triggers id)) (order conf) (order_rises conf)

judged_next : (conf : Conf) (log : List Numbered) (e : Numbered) (rs : List Rec) → Right conf e.number [] rs → (all : List ℕ) × Right conf e.number all (rs ++ judged_of (first_start conf) log e e.entry rs)
unfolding judged_of
judged_next conf log e rs right =
    let f = failures_at conf (memory_of (first_start conf) log) e.number e.entry in
    let q = failures_quiet conf (memory_of (first_start conf) log) e.number e.entry in
    let ids = triggers_at conf (memory_of (first_start conf) log) e.number e.entry in
    let r = phase_next conf (occasion_of (first_tick (first_start conf) log) e.number e.entry) (history_of (first_start conf) (e ∷ log)) [] ids (rs ++ f) (right_append conf e.number [] rs f right (quiet_right conf e.number [] f q.0 q.1) (quiet_all conf rs f q.0))
    (once_triggers conf (memory_of (first_start conf) log) e.number e.entry) (λ x i j. j) (rising_triggers conf (memory_of (first_start conf) log) e.number e.entry) (λ x y i j. absurd i) in
    (r.0, subst (Right conf e.number r.0) (append_assoc rs f (phase_over (first_stage conf) (evaluated (first_stage conf) (occasion_of (first_tick (first_start conf) log) e.number e.entry) (history_of (first_start conf) (e ∷ log))) (rs ++ f) ids)) r.1)

due_quiet : (conf : Conf) (n : ℕ) (done : List ℕ) (entry : Entry) (all : ℕ → List Open) → Each IsQuiet (due_at (first_stage conf) entry all) × Each (IsDone n done) (due_at (first_stage conf) entry all)
unfolding due_at due_over
due_quiet conf n done (Config now text) all = (tt, tt)
due_quiet conf n done (Value now item time value) all = (tt, tt)
due_quiet conf n done (Tick now) all = (
  each_flat_map IsQuiet (due_for (first_stage conf) now) (by_making (first_stage conf) all) (λ o. (right o).0),
  each_flat_map (IsDone n done) (due_for (first_stage conf) now) (by_making (first_stage conf) all) (λ o. (right o).1),
)
  where
    right : (o : Open) → Each IsQuiet (due_for (first_stage conf) now o) × Each (IsDone n done) (due_for (first_stage conf) now o)
    right o =
        let about = due_about conf (home (first_stage conf) (event_in o)) o.problem o.steps now in
        (about_quiet (event_in o) (due_for (first_stage conf) now o) about, about_right (event_in o) n done (due_for (first_stage conf) now o) about)

out_next : (conf : Conf) (log : List Numbered) (e : Numbered) (rs : List Rec) → Right conf e.number [] rs → (all : List ℕ) × Right conf e.number all (rs ++ out_of (first_start conf) log e e.entry rs)
unfolding out_of
out_next conf log e rs right =
    let r = judged_next conf log e rs right in
    let judged : List Rec = judged_of (first_start conf) log e e.entry rs in
    let due : List Rec = due_at (first_stage conf) e.entry (open_of (first_stage conf) (rs ++ judged)) in
    let q = due_quiet conf e.number r.0 e.entry (open_of (first_stage conf) (rs ++ judged)) in
    (r.0, subst (Right conf e.number r.0) (append_assoc rs judged due) (right_append conf e.number r.0 (rs ++ judged) due r.1 (quiet_right conf e.number r.0 due q.0 q.1) (quiet_all conf (rs ++ judged) due q.0)))

replay_right : (conf : Conf) (log : List Numbered) → IsRising (first_start conf) log → (m : ℕ) → last_number (first_start conf) log < m → Right conf m [] (replay (first_start conf) log)
replay_right conf [] r m l = record { early = tt; ids = tt; named = tt }
replay_right conf (e ∷ log) r m l =
    let here = out_next conf log e (replay (first_start conf) log) (replay_right conf log r.1 e.number r.0) in
    right_sub conf e.number m here.0 [] (replay (first_start conf) (e ∷ log)) (later here.0) here.1
  where
    later : (all : List ℕ) (event : EventId) → Done e.number all event → Done m [] event
    later all event (inl k) = inl (omega arith)
    later all event (inr d) = let q : event.number ≡ e.number = d.0 in inl (omega arith)

-- The public definition
same_refl : (a : List ℕ) → bytes_eq a a ≡ true
same_refl [] = refl
same_refl (x ∷ xs) = ap (λ b. b && bytes_eq xs xs) (eq-eqb x x refl) ∙ same_refl xs

-- what is open stands as it was made
right_recorded : (conf : Conf) (n : ℕ) (done : List ℕ) (rs : List Rec) → Right conf n done rs → IsAsRecorded (first_stage conf) rs
right_recorded conf n done rs right =
    as_recorded (first_stage conf) (λ event. refl) rs (once_order conf) (each_sub (IsOf conf) (OfProblem (λ event. In event.trigger (order conf))) rs its right.named) (pairs rs right.early)
  where
    its : (r : Rec) → IsOf conf r → OfProblem (λ event. In event.trigger (order conf)) r
    its (Problem event now severity suppressed host trigger name tags) of = stands conf event.trigger of.0 of.1
    its (Recovery event by now cause) of = tt
    its (Failure number host key why) of = tt
    its (Step event action step now) of = tt
    its (Message event action step recipient subject body) of = tt

    pairs : (xs : List Rec) → NoEarly conf xs → EachPair (Earlier (first_stage conf)) xs
    pairs [] e = tt
    pairs (x ∷ xs) e = (each_sub (Comes conf x) (Earlier (first_stage conf) x) xs (λ y c. c.1) e.0, pairs xs e.1)

once_front : (xs ys : List ℕ) → Once (xs ++ ys) → Once xs
once_front [] ys o = tt
once_front (x ∷ xs) ys o = (λ i. o.0 (in_left xs ys x i), once_front xs ys o.1)

pairs_front : (R : ℕ → ℕ → Type 0) (xs ys : List ℕ) → EachPair R (xs ++ ys) → EachPair R xs
pairs_front R [] ys e = tt
pairs_front R (x ∷ xs) ys e = (each_from (R x) xs (λ y i. each_at (R x) (xs ++ ys) e.0 y (in_left xs ys y i)), pairs_front R xs ys e.1)

pub making_is_order : MakingIsOrder
making_is_order conf log rising =
    let bound : last_number (first_start conf) log < last_number (first_start conf) log + 1 = omega arith in
    (right_recorded conf (last_number (first_start conf) log + 1) [] (replay (first_start conf) log) (replay_right conf log rising (last_number (first_start conf) log + 1) bound), inside)
  where
    inside : (e : Numbered) (ids rest : List ℕ) → IsRising (first_start conf) (e ∷ log) → triggers_at conf (memory_of (first_start conf) log) e.number e.entry ≡ ids ++ rest
        → IsAsRecorded (first_stage conf) (records_upto (first_start conf) log e (replay (first_start conf) log) ids)
    inside e ids rest up are =
        let rs = replay (first_start conf) log in
        let f = failures_at conf (memory_of (first_start conf) log) e.number e.entry in
        let q = failures_quiet conf (memory_of (first_start conf) log) e.number e.entry in
        let r = phase_next conf (occasion_of (first_tick (first_start conf) log) e.number e.entry) (history_of (first_start conf) (e ∷ log)) [] ids (rs ++ f)
        (right_append conf e.number [] rs f (replay_right conf log up.1 e.number up.0) (quiet_right conf e.number [] f q.0 q.1) (quiet_all conf rs f q.0))
        (once_front ids rest (subst Once are (once_triggers conf (memory_of (first_start conf) log) e.number e.entry))) (λ x i j. j)
        (pairs_front (IsAhead conf) ids rest (subst (EachPair (IsAhead conf)) are (rising_triggers conf (memory_of (first_start conf) log) e.number e.entry))) (λ x y i j. absurd i) in
        right_recorded conf e.number r.0 (records_upto (first_start conf) log e rs ids) r.1

any_early : (event : EventId) (before : List Rec) → Each (λ r. recovers event r ≡ false) before → list_any (recovers event) before ≡ false
any_early event [] e = refl
any_early event (r ∷ rs) e = ap (λ b. b || list_any (recovers event) rs) e.0 ∙ any_early event rs e.1

free_more : (conf : Conf) (before : List Rec) (r : Rec) (rs : List Rec) → Each (λ p. Each (λ b. NotAgain b p) before) rs → Each (Comes conf r) rs → Each (λ p. Each (λ b. NotAgain b p) (before ++ r ∷ [])) rs
free_more conf before r [] f e = tt
free_more conf before r (p ∷ rs) f e = (each_append (λ b. NotAgain b p) before (r ∷ []) f.0 ((e.0).0, tt), free_more conf before r rs f.1 e.1)

free_none : (rs : List Rec) → Each (λ p. Each (λ b. NotAgain b p) []) rs
free_none [] = tt
free_none (r ∷ rs) = (tt, free_none rs)

module _ (conf : Conf) (id : ℕ) (trigger : Trigger) (distinct : AreDistinct conf) (is : at_id conf.triggers id ≡ Some trigger) where
  -- a Problem is the trigger's where it has its names
  named_is : (event : EventId) (host name : List ℕ) → (t : Trigger) × (at_id conf.triggers event.trigger ≡ Some t) × (host ≡ host_of conf t) × (name ≡ t.name)
      → (event.trigger == id) ≡ (bytes_eq host (host_of conf trigger) && bytes_eq name trigger.name)
  named_is event host name of = go (event.trigger == id) refl
    where
      t : Trigger
      t = of.0

      go : (b : Bool) → (event.trigger == id) ≡ b → b ≡ (bytes_eq host (host_of conf trigger) && bytes_eq name trigger.name)
      go true q =
          let w : event.trigger ≡ id = eqb-true event.trigger id q in
          let both : Some t ≡ Some trigger = sym of.1 ∙ ap (at_id conf.triggers) w ∙ is in
          let u : t ≡ trigger = cc in
          let h : bytes_eq host (host_of conf trigger) ≡ true = ap (λ x. bytes_eq x (host_of conf trigger)) (of.2 ∙ ap (host_of conf) u) ∙ same_refl (host_of conf trigger) in
          let k : bytes_eq name trigger.name ≡ true = ap (λ x. bytes_eq x trigger.name) (of.3 ∙ ap (λ x. x.name) u) ∙ same_refl trigger.name in
          sym (and_both (bytes_eq host (host_of conf trigger)) (bytes_eq name trigger.name) h k)
      go false q = at (bytes_eq host (host_of conf trigger)) (bytes_eq name trigger.name) refl refl
        where
          at : (a b : Bool) → bytes_eq host (host_of conf trigger) ≡ a → bytes_eq name trigger.name ≡ b → false ≡ (a && b)
          at true true ea eb =
              let w : event.trigger ≡ id = distinct event.trigger id t trigger of.1 is (ap (λ x. bytes_eq x (host_of conf trigger)) (sym of.2) ∙ ea) (ap (λ x. bytes_eq x trigger.name) (sym of.3) ∙ eb) in
              let n : (event.trigger == id) ≡ true = eq-eqb event.trigger id w in cc
          at true false ea eb = refl
          at false b ea eb = refl

  tells : (rs : List Rec) → Each (IsOf conf) rs → All (λ r. is_named (host_of conf trigger) trigger.name r ≡ opens (first_stage conf) id r) rs
  tells [] e = All-nil (λ r. is_named (host_of conf trigger) trigger.name r ≡ opens (first_stage conf) id r)
  tells (r ∷ rs) e = All-cons (λ r. is_named (host_of conf trigger) trigger.name r ≡ opens (first_stage conf) id r) r rs (one r e.0) (tells rs e.1)
    where
      one : (r : Rec) → IsOf conf r → is_named (host_of conf trigger) trigger.name r ≡ opens (first_stage conf) id r
      one (Problem event now severity suppressed host t name tags) n = sym (named_is event host t n)
      one (Recovery event by now cause) n = refl
      one (Failure number host key why) n = refl
      one (Step event action step now) n = refl
      one (Message event action step recipient subject body) n = refl

-- a problem comes before its Recovery
comes_first : (conf : Conf) (host name : List ℕ) (earlier rs : List Rec) → Each (λ p. Each (λ b. NotAgain b p) earlier) rs → NoEarly conf rs → OpenFirst (is_named host name) earlier rs
comes_first conf host name earlier [] free early = tt
comes_first conf host name earlier (r ∷ rs) free early = (λ q. one r free.0 q, comes_first conf host name (earlier ++ r ∷ []) rs (free_more conf earlier r rs free.1 early.0) early.1)
  where
    one : (r : Rec) → Each (λ b. NotAgain b r) earlier → is_named host name r ≡ true → list_any (recovers (event_of r)) earlier ≡ false
    one (Problem event now severity suppressed h t n tags) f q = any_early event earlier f
    one (Recovery event by now cause) f q = cc
    one (Failure number h key why) f q = cc
    one (Step event action step now) f q = cc
    one (Message event action step recipient subject body) f q = cc

pub open_by_names : OpenByNames
open_by_names conf log rising distinct id trigger is =
    let bound : last_number (first_start conf) log < last_number (first_start conf) log + 1 = omega arith in
    let right = replay_right conf log rising (last_number (first_start conf) log + 1) bound in
    open_by_test (first_stage conf) id (is_named (host_of conf trigger) trigger.name) (replay (first_start conf) log) (tells conf id trigger distinct is (replay (first_start conf) log) right.named)
    (comes_first conf (host_of conf trigger) trigger.name [] (replay (first_start conf) log) (free_none (replay (first_start conf) log)) right.early)

-- Inside an entry
inside_right : (conf : Conf) (log : List Numbered) (e : Numbered) (ids rest : List ℕ) → IsRising (first_start conf) (e ∷ log) → triggers_at conf (memory_of (first_start conf) log) e.number e.entry ≡ ids ++ rest
    → (done : List ℕ) × Right conf e.number done (records_upto (first_start conf) log e (replay (first_start conf) log) ids)
inside_right conf log e ids rest up are =
    let rs = replay (first_start conf) log in
    let f = failures_at conf (memory_of (first_start conf) log) e.number e.entry in
    let q = failures_quiet conf (memory_of (first_start conf) log) e.number e.entry in
    phase_next conf (occasion_of (first_tick (first_start conf) log) e.number e.entry) (history_of (first_start conf) (e ∷ log)) [] ids (rs ++ f)
    (right_append conf e.number [] rs f (replay_right conf log up.1 e.number up.0) (quiet_right conf e.number [] f q.0 q.1) (quiet_all conf rs f q.0))
    (once_front ids rest (subst Once are (once_triggers conf (memory_of (first_start conf) log) e.number e.entry))) (λ x i j. j)
    (pairs_front (IsAhead conf) ids rest (subst (EachPair (IsAhead conf)) are (rising_triggers conf (memory_of (first_start conf) log) e.number e.entry))) (λ x y i j. absurd i)

pub open_inside : OpenInside
open_inside conf log e ids rest up distinct are id trigger is =
    let rs = records_upto (first_start conf) log e (replay (first_start conf) log) ids in
    let r = inside_right conf log e ids rest up are in
    open_by_test (first_stage conf) id (is_named (host_of conf trigger) trigger.name) rs (tells conf id trigger distinct is rs (r.1).named)
    (comes_first conf (host_of conf trigger) trigger.name [] rs (free_none rs) (r.1).early)
