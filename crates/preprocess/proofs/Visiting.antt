-- The visits that a walk makes are those that the search up the masters finds.
use Rattle.std.proofs.Common.{◌≡◌, ◌≤◌, ◌+◌, ◌-◌, ◌==◌, ℕ, zero, suc, List, [], ◌∷◌, ◌++◌, length, flat_map, filter_map, slice_get, Bool, true, false, cond, not, ◌&&◌, true≢false, Option, Some, None, option_map, option_to_list, refl, ap, sym, ◌∙◌, subst, arith, add-one, append_assoc, eq-eqb, eqb-true, length-append}
use Rattle.std.proofs.lemmas.List.Elements.{filter_map-append}
use Rattle.std.specs.List.{cons_option, AllByRecursion}
use Rattle.zbx_types.specs.Ids.{at_id}
use Rattle.zbx_types.specs.Items.{is_received_kind, is_received_item}
use Rattle.zbx_types.specs.declared.conf.Conf.{Conf}
use Rattle.zbx_types.specs.declared.items.Item.{Item}
use Rattle.prep_steps.specs.declared.memory.StepMemory.{StepMemory}
use Rattle.preprocess.specs.Chains.{dependents_of, dependents_from, is_dependent, depends_on}
use Rattle.preprocess.specs.Visits.{Arrival, chained_by, text_of, came_by, came, result_of, visited, visit_of, visits_of}
use Rattle.preprocess.specs.Walks.{walk, given, with_text, takes}
use Rattle.preprocess.specs.declared.visit.Visit.{Visit}
use Rattle.zbx_types.proofs.RowLemmas.{at_suc}

abbrev pub Memory : Type 0
Memory = ℕ → ℕ → StepMemory

-- what the search finds at an item
abbrev pub found : Conf → Memory → Arrival → ℕ → Option Visit
found conf memory arrival id = option_map (visit_of arrival.time arrival.number id) (result_of conf memory arrival id)

-- ---- lists

flat_filter : (W : ℕ → List Visit) (V : ℕ → List ℕ) (g : ℕ → Option Visit) (cs : List ℕ) → AllByRecursion (λ c. W c ≡ filter_map g (V c)) cs → flat_map W cs ≡ filter_map g (flat_map V cs)
flat_filter W V g [] all = refl
flat_filter W V g (c ∷ cs) all =
    ap (λ x. x ++ flat_map W cs) all.0 ∙ ap (λ x. filter_map g (V c) ++ x) (flat_filter W V g cs all.1) ∙ sym (filter_map-append g (V c) (flat_map V cs))

flat_none : (cs : List ℕ) → flat_map {X = ℕ} {A = Visit} (λ c. []) cs ≡ []
flat_none [] = refl
flat_none (c ∷ cs) = flat_none cs

middle : {A : Type 0} (xs : List A) (x : A) (ys : List A) → slice_get (xs ++ x ∷ ys) (length xs) ≡ Some x
middle [] x ys = refl
middle (y ∷ xs) x ys = middle xs x ys

at_middle : {A : Type 0} (xs : List A) (x : A) (ys : List A) → at_id (xs ++ x ∷ ys) (length xs + 1) ≡ Some x
at_middle xs x ys = rw add-one (at_suc (xs ++ x ∷ ys) (length xs) ∙ middle xs x ys)

pub both : (a b : Bool) → (a && b) ≡ true → (a ≡ true) × (b ≡ true)
both true b h = (refl, h)
both false b h = absurd (true≢false (sym h))

-- ---- dependents

first_dependent : (P : ℕ → Type 0) (all : List Item) (id : ℕ) → ((c : ℕ) (item : Item) → at_id all c ≡ Some item → depends_on id item ≡ true → P c)
    → (before items : List Item) (item : Item) → before ++ item ∷ items ≡ all → AllByRecursion P (dependents_from id (length before + 1 + 1) items)
    → (b : Bool) → depends_on id item ≡ b → AllByRecursion P (cond b ((length before + 1) ∷ []) [] ++ dependents_from id (length before + 1 + 1) items)
first_dependent P all id h before items item e rest true d = (h (length before + 1) item (ap (λ xs. at_id xs (length before + 1)) (sym e) ∙ at_middle before item items) d, rest)
first_dependent P all id h before items item e rest false d = rest

dependents_at : (P : ℕ → Type 0) (all : List Item) (id : ℕ) → ((c : ℕ) (item : Item) → at_id all c ≡ Some item → depends_on id item ≡ true → P c)
    → (before items : List Item) → before ++ items ≡ all → AllByRecursion P (dependents_from id (length before + 1) items)
dependents_at P all id h before [] e = tt
dependents_at P all id h before (item ∷ items) e =
    first_dependent P all id h before items item e
    (subst (λ k. AllByRecursion P (dependents_from id (k + 1) items)) (length-append before (item ∷ []))
    (dependents_at P all id h (before ++ item ∷ []) items (append_assoc before (item ∷ []) items ∙ e)))
    (depends_on id item) refl

pub each_dependent : (P : ℕ → Type 0) (conf : Conf) (id : ℕ) → ((c : ℕ) (item : Item) → at_id conf.items c ≡ Some item → depends_on id item ≡ true → P c)
    → AllByRecursion P (dependents_of conf id)
unfolding dependents_of
each_dependent P conf id h = dependents_at P conf.items id h [] conf.items refl

-- ---- what comes to an item

came_dependent : (conf : Conf) (memory : Memory) (arrival : Arrival) (up id : ℕ) (item : Item) → at_id conf.items id ≡ Some item → is_dependent item ≡ true
    → came conf memory arrival (suc up) id ≡ text_of (chained_by (memory item.master) arrival.time (at_id conf.items item.master) (came conf memory arrival up item.master))
unfolding came
came_dependent conf memory arrival up id item e d = rw e (go (is_received_kind item.kind) item.enabled _ _ d)
  where
    go : (k on : Bool) (x y : Option (List ℕ)) → (not k && on) ≡ true → cond k x (cond on y None) ≡ y
    go true on x y h = absurd (true≢false (sym h))
    go false true x y h = refl
    go false false x y h = absurd (true≢false (sym h))

came_below : (conf : Conf) (memory : Memory) (arrival : Arrival) (d id : ℕ) (came_here : Option (List ℕ)) → ((k : ℕ) → d ≤ k → came conf memory arrival k id ≡ came_here)
    → (c : ℕ) (item : Item) → at_id conf.items c ≡ Some item → depends_on id item ≡ true
    → (k : ℕ) → suc d ≤ k → came conf memory arrival k c ≡ text_of (chained_by (memory id) arrival.time (at_id conf.items id) came_here)
came_below conf memory arrival d id came_here h c item e dep zero l = absurd (omega arith)
came_below conf memory arrival d id came_here h c item e dep (suc k) l =
    let two = both (is_dependent item) (item.master == id) dep in
    came_dependent conf memory arrival k c item e two.0
    ∙ ap (λ m. text_of (chained_by (memory m) arrival.time (at_id conf.items m) (came conf memory arrival k m))) (eqb-true item.master id two.1)
    ∙ ap (λ o. text_of (chained_by (memory id) arrival.time (at_id conf.items id) o)) (h k (omega arith))

no_chain : (memory : ℕ → StepMemory) (time : ℕ) (item : Option Item) → chained_by memory time item None ≡ None
no_chain memory time None = refl
no_chain memory time (Some item) = refl

-- ---- the visits

found_by : (conf : Conf) (memory : Memory) (arrival : Arrival) (id : ℕ) (o : Option (List ℕ)) → came conf memory arrival (length conf.items) id ≡ o
    → found conf memory arrival id ≡ option_map (visit_of arrival.time arrival.number id) (chained_by (memory id) arrival.time (at_id conf.items id) o)
unfolding result_of
found_by conf memory arrival id o e = ap (λ x. option_map (visit_of arrival.time arrival.number id) (chained_by (memory id) arrival.time (at_id conf.items id) x)) e

none_below : (conf : Conf) (memory : Memory) (arrival : Arrival) (f d : ℕ) → d + f ≤ length conf.items → (id : ℕ)
    → ((k : ℕ) → d ≤ k → came conf memory arrival k id ≡ None) → filter_map (found conf memory arrival) (visited conf f id) ≡ []
unfolding visited
none_below conf memory arrival zero d e id h =
    ap (λ o. cons_option o []) (found_by conf memory arrival id None (h (length conf.items) (omega arith)) ∙ ap (option_map (visit_of arrival.time arrival.number id)) (no_chain (memory id) arrival.time (at_id conf.items id)))
none_below conf memory arrival (suc f) d e id h =
    ap (λ o. cons_option o (filter_map (found conf memory arrival) (flat_map (visited conf f) (dependents_of conf id))))
    (found_by conf memory arrival id None (h (length conf.items) (omega arith)) ∙ ap (option_map (visit_of arrival.time arrival.number id)) (no_chain (memory id) arrival.time (at_id conf.items id)))
    ∙ sym (flat_filter (λ c. []) (visited conf f) (found conf memory arrival) (dependents_of conf id) (each_dependent _ conf id (λ c item at dep.
    sym (none_below conf memory arrival f (suc d) (omega (arith, e)) c (λ k l.
    came_below conf memory arrival d id None h c item at dep k l ∙ ap text_of (no_chain (memory id) arrival.time (at_id conf.items id)))))))
    ∙ flat_none (dependents_of conf id)

list_of : (o : Option Visit) → option_to_list o ≡ cons_option o []
list_of None = refl
list_of (Some v) = refl

cons_of : (o : Option Visit) (xs : List Visit) → option_to_list o ++ xs ≡ cons_option o xs
cons_of None xs = refl
cons_of (Some v) xs = refl

by_text : (o : Option (List ℕ)) (F : List ℕ → List Visit) (rest : List Visit) → (o ≡ None → [] ≡ rest) → ((text : List ℕ) → o ≡ Some text → F text ≡ rest) → with_text F o ≡ rest
by_text None F rest n s = n refl
by_text (Some text) F rest n s = s text refl

walks : (conf : Conf) (memory : Memory) (arrival : Arrival) (f d : ℕ) → d + f ≤ length conf.items → (id : ℕ) (value : List ℕ)
    → ((k : ℕ) → d ≤ k → came conf memory arrival k id ≡ Some value) → walk conf memory arrival.time arrival.number f id value ≡ filter_map (found conf memory arrival) (visited conf f id)
unfolding visited walk
walks conf memory arrival zero d e id value h =
    list_of (option_map (visit_of arrival.time arrival.number id) (chained_by (memory id) arrival.time (at_id conf.items id) (Some value))) ∙ ap (λ o. cons_option o []) (sym (found_by conf memory arrival id (Some value) (h (length conf.items) (omega arith))))
walks conf memory arrival (suc f) d e id value h =
    cons_of (option_map (visit_of arrival.time arrival.number id) (chained_by (memory id) arrival.time (at_id conf.items id) (Some value)))
    (with_text (λ text. flat_map (λ c. walk conf memory arrival.time arrival.number f c text) (dependents_of conf id)) (given conf memory arrival.time id value))
    ∙ ap (λ o. cons_option o (with_text (λ text. flat_map (λ c. walk conf memory arrival.time arrival.number f c text) (dependents_of conf id)) (given conf memory arrival.time id value)))
    (sym (found_by conf memory arrival id (Some value) (h (length conf.items) (omega arith))))
    ∙ ap (cons_option (found conf memory arrival id)) (by_text (given conf memory arrival.time id value) _ _
    (λ g. sym (flat_none (dependents_of conf id))
    ∙ flat_filter (λ c. []) (visited conf f) (found conf memory arrival) (dependents_of conf id) (each_dependent _ conf id (λ c item at dep.
    sym (none_below conf memory arrival f (suc d) (omega (arith, e)) c (λ k l. came_below conf memory arrival d id (Some value) h c item at dep k l ∙ g)))))
    (λ text g. flat_filter (λ c. walk conf memory arrival.time arrival.number f c text) (visited conf f) (found conf memory arrival) (dependents_of conf id) (each_dependent _ conf id (λ c item at dep.
    walks conf memory arrival f (suc d) (omega (arith, e)) c text (λ k l. came_below conf memory arrival d id (Some value) h c item at dep k l ∙ g)))))

-- ---- the entry's item

came_first : (conf : Conf) (memory : Memory) (arrival : Arrival) (item : Item) → at_id conf.items arrival.item ≡ Some item → is_received_kind item.kind ≡ true
    → (k : ℕ) → came conf memory arrival k arrival.item ≡ Some arrival.value
unfolding came
came_first conf memory arrival item e t zero = rw e (rw t (rw (eq-eqb arrival.item arrival.item refl) refl))
came_first conf memory arrival item e t (suc k) = rw e (rw t (rw (eq-eqb arrival.item arrival.item refl) refl))

walk_first : (conf : Conf) (memory : Memory) (arrival : Arrival) (item : Item) → at_id conf.items arrival.item ≡ Some item → is_received_kind item.kind ≡ true
    → walk conf memory arrival.time arrival.number (length conf.items - 1) arrival.item arrival.value ≡ visits_of conf memory arrival
unfolding visits_of
walk_first conf memory arrival item e t =
    walks conf memory arrival (length conf.items - 1) 0 (omega arith) arrival.item arrival.value (λ k l. came_first conf memory arrival item e t k)

-- an item that takes no values of entries: nothing comes anywhere
abbrev TrapperAt : Conf → ℕ → Type 0
TrapperAt conf id = (item : Item) × (at_id conf.items id ≡ Some item) × (is_received_kind item.kind ≡ true)

nowhere_by : (conf : Conf) (arrival : Arrival) → (TrapperAt conf arrival.item → ⊥) → (down : ℕ → Option (List ℕ)) → ((master : ℕ) → down master ≡ None) → (id : ℕ)
    → (o : Option Item) → at_id conf.items id ≡ o → came_by arrival id down o ≡ None
nowhere_by conf arrival refuted down none id None e = refl
nowhere_by conf arrival refuted down none id (Some item) e = by_kind (is_received_kind item.kind) refl (id == arrival.item) refl item.enabled
  where
    by_kind : (t : Bool) → is_received_kind item.kind ≡ t → (s : Bool) → (id == arrival.item) ≡ s → (on : Bool) → cond t (cond s (Some arrival.value) None) (cond on (down item.master) None) ≡ None
    by_kind true t true s on = absurd (refuted (item, ap (at_id conf.items) (sym (eqb-true id arrival.item s)) ∙ e, t))
    by_kind true t false s on = refl
    by_kind false t s q true = none item.master
    by_kind false t s q false = refl

came_nowhere : (conf : Conf) (memory : Memory) (arrival : Arrival) → (TrapperAt conf arrival.item → ⊥) → (k id : ℕ) → came conf memory arrival k id ≡ None
unfolding came
came_nowhere conf memory arrival refuted zero id = nowhere_by conf arrival refuted (λ master. None) (λ master. refl) id (at_id conf.items id) refl
came_nowhere conf memory arrival refuted (suc k) id = nowhere_by conf arrival refuted _ (λ master.
    ap (λ o. text_of (chained_by (memory master) arrival.time (at_id conf.items master) o)) (came_nowhere conf memory arrival refuted k master)
    ∙ ap text_of (no_chain (memory master) arrival.time (at_id conf.items master))) id (at_id conf.items id) refl

no_visits : (conf : Conf) (memory : Memory) (arrival : Arrival) → (TrapperAt conf arrival.item → ⊥) → [] ≡ visits_of conf memory arrival
unfolding visits_of
no_visits conf memory arrival refuted = sym (none_below conf memory arrival (length conf.items - 1) 0 (omega arith) arrival.item (λ k l. came_nowhere conf memory arrival refuted k arrival.item))

-- the item of an entry takes values, or doesn't
pub first_taken : (conf : Conf) (memory : Memory) (arrival : Arrival) → takes conf arrival.item ≡ true
    → walk conf memory arrival.time arrival.number (length conf.items - 1) arrival.item arrival.value ≡ visits_of conf memory arrival
first_taken conf memory arrival h = go (at_id conf.items arrival.item) refl h
  where
    go : (o : Option Item) → at_id conf.items arrival.item ≡ o → is_received_item o ≡ true → walk conf memory arrival.time arrival.number (length conf.items - 1) arrival.item arrival.value ≡ visits_of conf memory arrival
    go None e t = absurd (true≢false (sym t))
    go (Some item) e t = walk_first conf memory arrival item e t

pub first_refused : (conf : Conf) (memory : Memory) (arrival : Arrival) → takes conf arrival.item ≡ false → [] ≡ visits_of conf memory arrival
first_refused conf memory arrival h = no_visits conf memory arrival (λ t. true≢false (sym t.2 ∙ sym (ap is_received_item t.1) ∙ h))

pub visits_is : (conf : Conf) (memory : Memory) (arrival : Arrival) → visits_of conf memory arrival ≡ filter_map (found conf memory arrival) (visited conf (length conf.items - 1) arrival.item)
unfolding visits_of
visits_is conf memory arrival = refl
