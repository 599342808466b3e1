-- No item is visited twice at an entry.
use Rattle.std.proofs.Common.{◌≡◌, ◌≢◌, ◌≤◌, ◌+◌, ◌-◌, ◌==◌, ℕ, zero, suc, List, [], ◌∷◌, ◌++◌, length, flat_map, filter_map, Bool, true, false, cond, true≢false, Option, Some, None, option_map, refl, ap, sym, ◌∙◌, subst, arith, eqb-true, is_some}
use Rattle.std.specs.Prelude.{⊤}
use Rattle.std.specs.List.{cons_option, AllByRecursion}
use Rattle.zbx_types.specs.Ids.{at_id}
use Rattle.zbx_types.specs.Items.{is_received_item}
use Rattle.zbx_types.specs.declared.conf.Conf.{Conf}
use Rattle.zbx_types.specs.declared.items.Item.{Item}
use Rattle.preprocess.specs.Chains.{dependents_of, dependents_from, is_dependent, depends_on}
use Rattle.preprocess.specs.Visits.{Arrival, visited, visit_of, visits_of, result_of}
use Rattle.preprocess.specs.Draft.{AreApart, IsOther}
use Rattle.preprocess.specs.declared.visit.Visit.{Visit}
use Rattle.preprocess.specs.Walks.{takes}
use Rattle.preprocess.proofs.Visiting.{Memory, found, each_dependent, both, visits_is, first_refused}

-- the master of an item
abbrev pub master_by : Option Item → ℕ
master_by None = 0
master_by (Some item) = item.master

abbrev pub depends_by : Option Item → Bool
depends_by None = false
depends_by (Some item) = is_dependent item

-- an item stands so many dependences below another one
abbrev pub Under : Conf → ℕ → ℕ → ℕ → Type 0
Under conf zero top x = x ≡ top
Under conf (suc r) top x = (depends_by (at_id conf.items x) ≡ true) × Under conf r top (master_by (at_id conf.items x))

one_top : (conf : Conf) (r a b x : ℕ) → Under conf r a x → Under conf r b x → a ≡ b
one_top conf zero a b x p q = sym p ∙ q
one_top conf (suc r) a b x p q = one_top conf r a b (master_by (at_id conf.items x)) p.1 q.1

-- below an item that depends on none each item has one depth
one_depth : (conf : Conf) (root : ℕ) → depends_by (at_id conf.items root) ≡ false → (r s x : ℕ) → Under conf r root x → Under conf s root x → r ≡ s
one_depth conf root free zero zero x p q = refl
one_depth conf root free zero (suc s) x p q = absurd (true≢false (sym q.0 ∙ ap (λ y. depends_by (at_id conf.items y)) p ∙ free))
one_depth conf root free (suc r) zero x p q = absurd (true≢false (sym p.0 ∙ ap (λ y. depends_by (at_id conf.items y)) q ∙ free))
one_depth conf root free (suc r) (suc s) x p q = ap suc (one_depth conf root free r s (master_by (at_id conf.items x)) p.1 q.1)

-- one dependence more at the top
pub under_more : (conf : Conf) (s m c x : ℕ) → Under conf 1 m c → Under conf s c x → Under conf (suc s) m x
under_more conf zero m c x h p = subst (λ y. Under conf 1 m y) (sym p) h
under_more conf (suc s) m c x h p = (p.0, under_more conf s m c (master_by (at_id conf.items x)) h p.1)

under_both : (conf : Conf) (s d n root m x : ℕ) → n ≡ s + d → Under conf d root m → Under conf s m x → Under conf n root x
under_both conf zero d n root m x e h p =
    let q : d ≡ n = omega (arith, e) in
    subst (λ k. Under conf k root x) q (subst (λ y. Under conf d root y) (sym p) h)
under_both conf (suc s) d zero root m x e h p = absurd (omega (arith, e))
under_both conf (suc s) d (suc n) root m x e h p = (p.0, under_both conf s d n root m (master_by (at_id conf.items x)) (omega (arith, e)) h p.1)

pub dependent_under : (conf : Conf) (id c : ℕ) (item : Item) → at_id conf.items c ≡ Some item → depends_on id item ≡ true → Under conf 1 id c
dependent_under conf id c item at dep =
    let two = both (is_dependent item) (item.master == id) dep in
    (ap depends_by at ∙ two.0, ap master_by at ∙ eqb-true item.master id two.1)

-- ---- lists

pub all_map : {A : Type 0} (P Q : A → Type 0) → ((x : A) → P x → Q x) → (xs : List A) → AllByRecursion P xs → AllByRecursion Q xs
all_map P Q h [] all = tt
all_map P Q h (x ∷ xs) all = (h x all.0, all_map P Q h xs all.1)

all_append : {A : Type 0} (P : A → Type 0) (xs ys : List A) → AllByRecursion P xs → AllByRecursion P ys → AllByRecursion P (xs ++ ys)
all_append P [] ys a b = b
all_append P (x ∷ xs) ys a b = (a.0, all_append P xs ys a.1 b)

pub all_flat : (P : ℕ → Type 0) (V : ℕ → List ℕ) (cs : List ℕ) → AllByRecursion (λ c. AllByRecursion P (V c)) cs → AllByRecursion P (flat_map V cs)
all_flat P V [] all = tt
all_flat P V (c ∷ cs) all = all_append P (V c) (flat_map V cs) all.0 (all_flat P V cs all.1)

abbrev Apart : List ℕ → Type 0
Apart [] = ⊤
Apart (x ∷ xs) = AllByRecursion (λ y. y ≢ x) xs × Apart xs

apart_append : (xs ys : List ℕ) → Apart xs → Apart ys → AllByRecursion (λ x. AllByRecursion (λ y. y ≢ x) ys) xs → Apart (xs ++ ys)
apart_append [] ys a b c = b
apart_append (x ∷ xs) ys a b c = (all_append (λ y. y ≢ x) xs ys a.0 c.0, apart_append xs ys a.1 b c.1)

-- ---- what is visited

abbrev IsUnder : Conf → ℕ → ℕ → Type 0
IsUnder conf top x = (s : ℕ) × Under conf s top x

visited_under : (conf : Conf) (f id : ℕ) → AllByRecursion (IsUnder conf id) (visited conf f id)
unfolding visited
visited_under conf zero id = ((0, refl), tt)
visited_under conf (suc f) id = (
  (0, refl),
  all_flat (IsUnder conf id) (visited conf f) (dependents_of conf id) (each_dependent _ conf id (λ c item at dep.
      all_map (IsUnder conf c) (IsUnder conf id) (λ x p. (suc p.0, under_more conf p.0 id c x (dependent_under conf id c item at dep) p.1)) (visited conf f c) (visited_under conf f c))),
)

-- the ids of dependents rise
risen : (master k : ℕ) (item : Item) (items : List Item) → AllByRecursion (λ c. k + 1 ≤ c) (dependents_from master (k + 1) items)
    → (b : Bool) → AllByRecursion (λ c. k ≤ c) (cond b (k ∷ []) [] ++ dependents_from master (k + 1) items)
risen master k item items rest true = (omega arith, all_map (λ c. k + 1 ≤ c) (λ c. k ≤ c) (λ c l. omega (arith, l)) (dependents_from master (k + 1) items) rest)
risen master k item items rest false = all_map (λ c. k + 1 ≤ c) (λ c. k ≤ c) (λ c l. omega (arith, l)) (dependents_from master (k + 1) items) rest

ids_rise : (master k : ℕ) (items : List Item) → AllByRecursion (λ c. k ≤ c) (dependents_from master k items)
ids_rise master k [] = tt
ids_rise master k (item ∷ items) = risen master k item items (ids_rise master (k + 1) items) (depends_on master item)

apart_by : (master k : ℕ) (items : List Item) → Apart (dependents_from master (k + 1) items)
    → (b : Bool) → Apart (cond b (k ∷ []) [] ++ dependents_from master (k + 1) items)
apart_by master k items rest true = (all_map (λ c. k + 1 ≤ c) (λ c. c ≢ k) (λ c l e. absurd (omega (arith, l, e))) (dependents_from master (k + 1) items) (ids_rise master (k + 1) items), rest)
apart_by master k items rest false = rest

ids_apart : (master k : ℕ) (items : List Item) → Apart (dependents_from master k items)
ids_apart master k [] = tt
ids_apart master k (item ∷ items) = apart_by master k items (ids_apart master (k + 1) items) (depends_on master item)

dependents_apart : (conf : Conf) (id : ℕ) → Apart (dependents_of conf id)
unfolding dependents_of
dependents_apart conf id = ids_apart id 1 conf.items

all_two : (P Q R : ℕ → Type 0) → ((x : ℕ) → P x → Q x → R x) → (xs : List ℕ) → AllByRecursion P xs → AllByRecursion Q xs → AllByRecursion R xs
all_two P Q R h [] a b = tt
all_two P Q R h (x ∷ xs) a b = (h x a.0 b.0, all_two P Q R h xs a.1 b.1)

-- what is below one item of a level is nowhere below another one
never : (conf : Conf) (root : ℕ) → depends_by (at_id conf.items root) ≡ false → (e a b x y : ℕ) → Under conf e root a → Under conf e root b → b ≢ a
    → IsUnder conf a x → IsUnder conf b y → y ≢ x
never conf root free e a b x y p q ne u v same =
    let w : Under conf v.0 b x = subst (λ z. Under conf v.0 b z) same v.1 in
    let one = under_both conf u.0 e (u.0 + e) root a x refl p u.1 in
    let two = under_both conf v.0 e (v.0 + e) root b x refl q w in
    let deep = one_depth conf root free (u.0 + e) (v.0 + e) x one two in
    let level : v.0 ≡ u.0 = omega (arith, deep) in
    ne (sym (one_top conf u.0 a b x u.1 (subst (λ n. Under conf n b x) level w)))

flat_apart : (conf : Conf) (root : ℕ) → depends_by (at_id conf.items root) ≡ false → (f e : ℕ) (cs : List ℕ) → Apart cs
    → AllByRecursion (λ c. Under conf e root c) cs → AllByRecursion (λ c. Apart (visited conf f c)) cs → Apart (flat_map (visited conf f) cs)
flat_apart conf root free f e [] a u v = tt
flat_apart conf root free f e (c ∷ cs) a u v = apart_append (visited conf f c) (flat_map (visited conf f) cs) v.0 (flat_apart conf root free f e cs a.1 u.1 v.1)
    (all_map (IsUnder conf c) _ (λ x p. all_flat (λ y. y ≢ x) (visited conf f) cs
    (all_two (λ b. b ≢ c) (λ b. Under conf e root b) _ (λ b ne h. all_map (IsUnder conf b) (λ y. y ≢ x) (λ y q. never conf root free e c b x y u.0 h ne p q) (visited conf f b) (visited_under conf f b)) cs a.0 u.1))
    (visited conf f c) (visited_under conf f c))

visited_apart : (conf : Conf) (root : ℕ) → depends_by (at_id conf.items root) ≡ false → (f d id : ℕ) → Under conf d root id → Apart (visited conf f id)
unfolding visited
visited_apart conf root free zero d id h = (tt, tt)
visited_apart conf root free (suc f) d id h = (
  all_flat (λ y. y ≢ id) (visited conf f) (dependents_of conf id) (each_dependent _ conf id (λ c item at dep.
      all_map (IsUnder conf c) (λ y. y ≢ id) (λ y q same.
      let low = under_both conf (suc q.0) d (suc q.0 + d) root id y refl h (under_more conf q.0 id c y (dependent_under conf id c item at dep) q.1) in
      let deep = one_depth conf root free (suc q.0 + d) d y low (subst (λ z. Under conf d root z) (sym same) h) in
      absurd (omega (arith, deep))) (visited conf f c) (visited_under conf f c))),
  flat_apart conf root free f (1 + d) (dependents_of conf id) (dependents_apart conf id)
      (each_dependent _ conf id (λ c item at dep. under_both conf 1 d (1 + d) root id c refl h (dependent_under conf id c item at dep)))
      (each_dependent _ conf id (λ c item at dep. visited_apart conf root free f (1 + d) c (under_both conf 1 d (1 + d) root id c refl h (dependent_under conf id c item at dep)))),
)

-- ---- visits

other_by : (g : ℕ → Option Visit) → ((x : ℕ) (v : Visit) → g x ≡ Some v → v.item ≡ x) → (id x : ℕ) (o : Option Visit) → g x ≡ o → x ≢ id
    → (rest : List Visit) → IsOther id rest → IsOther id (cons_option o rest)
other_by g h id x None e ne rest all = all
other_by g h id x (Some v) e ne rest all = (λ same. ne (sym (h x v e) ∙ same), all)

is_other : (g : ℕ → Option Visit) → ((x : ℕ) (v : Visit) → g x ≡ Some v → v.item ≡ x) → (id : ℕ) (ids : List ℕ) → AllByRecursion (λ y. y ≢ id) ids → IsOther id (filter_map g ids)
is_other g h id [] all = tt
is_other g h id (x ∷ ids) all = other_by g h id x (g x) refl all.0 (filter_map g ids) (is_other g h id ids all.1)

first_by : (g : ℕ → Option Visit) → ((x : ℕ) (v : Visit) → g x ≡ Some v → v.item ≡ x) → (x : ℕ) (ids : List ℕ) (o : Option Visit) → g x ≡ o
    → AllByRecursion (λ y. y ≢ x) ids → AreApart (filter_map g ids) → AreApart (cons_option o (filter_map g ids))
first_by g h x ids None e others rest = rest
first_by g h x ids (Some v) e others rest = (subst (λ id. IsOther id (filter_map g ids)) (sym (h x v e)) (is_other g h x ids others), rest)

visits_apart_by : (g : ℕ → Option Visit) → ((x : ℕ) (v : Visit) → g x ≡ Some v → v.item ≡ x) → (ids : List ℕ) → Apart ids → AreApart (filter_map g ids)
visits_apart_by g h [] a = tt
visits_apart_by g h (x ∷ ids) a = first_by g h x ids (g x) refl a.0 (visits_apart_by g h ids a.1)

pub found_at : (conf : Conf) (memory : Memory) (arrival : Arrival) (x : ℕ) (v : Visit) → found conf memory arrival x ≡ Some v → v.item ≡ x
found_at conf memory arrival x v e = go (result_of conf memory arrival x) e
  where
    go : (o : Option _) → option_map (visit_of arrival.time arrival.number x) o ≡ Some v → v.item ≡ x
    go None e = absurd (true≢false (sym (ap is_some e)))
    go (Some c) e = let s : visit_of arrival.time arrival.number x c ≡ v = cc in ap (λ w. w.item) (sym s)

-- no item is visited twice
pub visits_apart : (conf : Conf) (memory : Memory) (arrival : Arrival) → AreApart (visits_of conf memory arrival)
visits_apart conf memory arrival = go (takes conf arrival.item) refl
  where
    free_by : (o : Option Item) → is_received_item o ≡ true → depends_by o ≡ false
    free_by None t = refl
    free_by (Some item) t = rw t refl

    go : (b : Bool) → takes conf arrival.item ≡ b → AreApart (visits_of conf memory arrival)
    go false t = subst AreApart (first_refused conf memory arrival t) tt
    go true t = subst AreApart (sym (visits_is conf memory arrival)) (visits_apart_by (found conf memory arrival) (found_at conf memory arrival) (visited conf (length conf.items - 1) arrival.item)
        (visited_apart conf arrival.item (free_by (at_id conf.items arrival.item) t) (length conf.items - 1) 0 arrival.item refl))
