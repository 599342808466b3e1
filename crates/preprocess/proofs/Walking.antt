-- A walk by its parts.
use Rattle.std.proofs.Common.{◌≡◌, ◌≢◌, ◌≤◌, ◌<◌, ◌+◌, ◌-◌, get_or, ℕ, zero, suc, List, [], ◌∷◌, ◌++◌, flat_map, Option, Some, None, refl, ap, sym, ◌∙◌, arith, append-nil, append_assoc, map, slice_get, true≢false, length, drop}
use Rattle.std.proofs.lemmas.List.{drop_all, drop_more}
use Rattle.zbx_types.specs.Ids.{at_id}
use Rattle.zbx_types.specs.declared.conf.Conf.{Conf}
use Rattle.zbx_types.specs.declared.items.Item.{Item}
use Rattle.prep_steps.specs.declared.memory.StepMemory.{StepMemory}
use Rattle.zbx_types.specs.declared.steps.StepSpec.{StepSpec}
use Rattle.preprocess.specs.declared.visit.ItemOutcome.{ItemOutcome}
use Rattle.preprocess.specs.Chain.{chain_of, comes_of, marks_of, ended_as, read_as}
use Rattle.std.specs.Option.{unwrap_or}
use Rattle.preprocess.specs.Chains.{dependents_of, listed, AreChainsOf}
use Rattle.preprocess.specs.Ways.{way_for, ways_for}
use Rattle.preprocess.specs.declared.chains.Chains.{Chains}
use Rattle.zbx_types.proofs.RowLemmas.{at_zero, at_suc}
use Rattle.preprocess.proofs.Rows.{row_within}
use Rattle.preprocess.specs.Visits.{outcome_of, visit_of, ended_text}
use Rattle.preprocess.specs.Walks.{walk, walk_below, with_text}
use Rattle.preprocess.specs.declared.visit.Visit.{Visit}
use Rattle.preprocess.specs.declared.chain.Chained.{Chained}

-- no item: no visit
pub walk_none : (conf : Conf) (memory : ℕ → ℕ → StepMemory) (time number down id : ℕ) (value : List ℕ) → at_id conf.items id ≡ None → walk conf memory time number down id value ≡ []
unfolding walk
walk_none conf memory time number zero id value e = rw e refl
walk_none conf memory time number (suc down) id value e = rw e refl

-- a value goes down where it is stored
pub walk_is : (conf : Conf) (memory : ℕ → ℕ → StepMemory) (time number down id : ℕ) (value : List ℕ) (item : Item) → at_id conf.items id ≡ Some item
    → walk conf memory time number down id value
    ≡ visit_of time number id (chain_of item (memory id) value time) ∷ with_text (λ text. walk_below conf memory time number down (dependents_of conf id) text) (ended_text (chain_of item (memory id) value time).end)
unfolding walk walk_below
walk_is conf memory time number zero id value item e = rw e (go (ended_text (chain_of item (memory id) value time).end))
  where
    go : (o : Option (List ℕ)) → visit_of time number id (chain_of item (memory id) value time) ∷ [] ≡ visit_of time number id (chain_of item (memory id) value time) ∷ with_text (λ text. []) o
    go None = refl
    go (Some t) = refl
walk_is conf memory time number (suc down) id value item e = rw e refl

pub below_none : (conf : Conf) (memory : ℕ → ℕ → StepMemory) (time number down : ℕ) (ids value : List ℕ) → down ≡ 0 → walk_below conf memory time number down ids value ≡ []
unfolding walk_below
below_none conf memory time number down ids value e = rw e refl

pub below_some : (conf : Conf) (memory : ℕ → ℕ → StepMemory) (time number down : ℕ) (ids value : List ℕ) → down ≢ 0
    → walk_below conf memory time number down ids value ≡ flat_map (λ d. walk conf memory time number (down - 1) d value) ids
unfolding walk_below
below_some conf memory time number zero ids value ne = absurd (ne refl)
below_some conf memory time number (suc down) ids value ne = let m : suc down - 1 ≡ down = omega arith in rw m refl

row_map : {A B : Type 0} (f : A → B) (xs : List A) (i : ℕ) (x : A) → slice_get xs i ≡ Some x → slice_get (map f xs) i ≡ Some (f x)
row_map f [] i x e = absurd (true≢false (cc))
row_map f (y ∷ xs) zero x e = let s : y ≡ x = cc in ap (λ z. Some (f z)) s
row_map f (y ∷ xs) (suc i) x e = row_map f xs i x e

listed_map : {A B : Type 0} (f : A → List B) (xs : List A) (id : ℕ) (x : A) → at_id xs id ≡ Some x → listed (map f xs) id ≡ f x
listed_map f xs zero x e = let n = at_zero xs in absurd (true≢false (cc))
listed_map f xs (suc k) x e = ap (λ o. unwrap_or o []) (at_suc (map f xs) k ∙ row_map f xs k x (sym (at_suc xs k) ∙ e))

-- what was found at the opening, at an item that is there
pub ways_are : (conf : Conf) (patterns : List (List ℕ)) (chains : Chains) (id : ℕ) (item : Item) → AreChainsOf conf patterns chains → at_id conf.items id ≡ Some item → listed chains.ways.items id ≡ map (way_for patterns) item.steps
ways_are conf patterns chains id item are e = ap (λ rows. listed rows id) are.ways ∙ listed_map (ways_for patterns) conf.items id item e

pub below_are : (conf : Conf) (patterns : List (List ℕ)) (chains : Chains) (id : ℕ) (item : Item) → AreChainsOf conf patterns chains → at_id conf.items id ≡ Some item → listed chains.below.items id ≡ dependents_of conf id
below_are conf patterns chains id item are e = let w = row_within conf.items id item e in are.below id w.0 w.1

-- what the visits so far come to
pub nothing : (before w : List Visit) → w ≡ [] → before ≡ before ++ w
nothing before w e = sym (ap (λ x. before ++ x) e ∙ append-nil before)

pub stops : (conf : Conf) (memory : ℕ → ℕ → StepMemory) (time number down id : ℕ) (value : List ℕ) (item : Item) (chained : Chained) (visit : Visit) (before pushed : List Visit)
    → at_id conf.items id ≡ Some item → chained ≡ chain_of item (memory id) value time → visit ≡ visit_of time number id chained → pushed ≡ before ++ visit ∷ []
    → ended_text chained.end ≡ None → pushed ≡ before ++ walk conf memory time number down id value
stops conf memory time number down id value item chained visit before pushed e made is p none =
    p ∙ ap (λ (v : Visit). before ++ v ∷ []) is
    ∙ sym (ap (λ w. before ++ w) (walk_is conf memory time number down id value item e
    ∙ ap (λ (c : Chained). visit_of time number id c ∷ with_text (λ text. walk_below conf memory time number down (dependents_of conf id) text) (ended_text c.end)) (sym made)
    ∙ ap (λ o. visit_of time number id chained ∷ with_text (λ text. walk_below conf memory time number down (dependents_of conf id) text) o) none))

pub goes : (conf : Conf) (memory : ℕ → ℕ → StepMemory) (time number down id : ℕ) (value text : List ℕ) (item : Item) (chained : Chained) (visit : Visit) (below : List ℕ) (before pushed after : List Visit)
    → at_id conf.items id ≡ Some item → chained ≡ chain_of item (memory id) value time → visit ≡ visit_of time number id chained → pushed ≡ before ++ visit ∷ []
    → ended_text chained.end ≡ Some text → below ≡ dependents_of conf id → after ≡ pushed ++ walk_below conf memory time number down below text
    → after ≡ before ++ walk conf memory time number down id value
goes conf memory time number down id value text item chained visit below before pushed after e made is p some b a =
    a ∙ ap (λ x. x ++ walk_below conf memory time number down below text) (p ∙ ap (λ (v : Visit). before ++ v ∷ []) is)
    ∙ append_assoc before (visit_of time number id chained ∷ []) (walk_below conf memory time number down below text)
    ∙ ap (λ ids. before ++ visit_of time number id chained ∷ walk_below conf memory time number down ids text) b
    ∙ sym (ap (λ w. before ++ w) (walk_is conf memory time number down id value item e
    ∙ ap (λ (c : Chained). visit_of time number id c ∷ with_text (λ t. walk_below conf memory time number down (dependents_of conf id) t) (ended_text c.end)) (sym made)
    ∙ ap (λ o. visit_of time number id chained ∷ with_text (λ t. walk_below conf memory time number down (dependents_of conf id) t) o) some))

-- an item without steps reads the value as it stands
pub plain_visit : (item : Item) (memory : ℕ → StepMemory) (value : List ℕ) (time number id : ℕ) (outcome : ItemOutcome) (visit : Visit) (marks : List StepMemory) → item.steps ≡ [] → outcome ≡ outcome_of time number (read_as item.value_type value) → marks ≡ []
    → visit ≡ record { item = id; outcome = outcome; marks = marks } → visit ≡ visit_of time number id (chain_of item memory value time)
unfolding chain_of comes_of marks_of
plain_visit item memory value time number id outcome visit marks none read empty is =
    let of : List StepSpec → Visit = λ steps. record { item = id; outcome = outcome_of time number (ended_as item.value_type (comes_of steps 1 memory value time)); marks = marks_of steps 1 memory value time } in
    is ∙ ap (λ ms. record { item = id; outcome = outcome; marks = ms }) empty ∙ ap (λ o. record { item = id; outcome = o; marks = [] }) read ∙ sym (ap of none)

below_empty : (conf : Conf) (memory : ℕ → ℕ → StepMemory) (time number down : ℕ) (value : List ℕ) → walk_below conf memory time number down [] value ≡ []
unfolding walk_below
below_empty conf memory time number zero value = refl
below_empty conf memory time number (suc down) value = refl

-- where an item gives to none, its own visit is all
pub alone : (conf : Conf) (memory : ℕ → ℕ → StepMemory) (time number down id : ℕ) (value : List ℕ) (item : Item) (visit : Visit) (before pushed : List Visit)
    → at_id conf.items id ≡ Some item → visit ≡ visit_of time number id (chain_of item (memory id) value time) → dependents_of conf id ≡ [] → pushed ≡ before ++ visit ∷ []
    → pushed ≡ before ++ walk conf memory time number down id value
alone conf memory time number down id value item visit before pushed e is none p =
    let chained : Chained = chain_of item (memory id) value time in
    p ∙ ap (λ (v : Visit). before ++ v ∷ []) is
    ∙ sym (ap (λ w. before ++ w) (walk_is conf memory time number down id value item e
    ∙ ap (λ ids. visit_of time number id chained ∷ with_text (λ text. walk_below conf memory time number down ids text) (ended_text chained.end)) none
    ∙ ap (λ vs. visit_of time number id chained ∷ vs) (nowhere (ended_text chained.end))))
  where
    nowhere : (o : Option (List ℕ)) → with_text (λ text. walk_below conf memory time number down [] text) o ≡ []
    nowhere None = refl
    nowhere (Some text) = below_empty conf memory time number down text

-- the item that a look-up found
pub at_found : (items list : List Item) (id : ℕ) (found : Option Item) → list ≡ items → found ≡ at_id list id → at_id items id ≡ found
at_found items list id found same e = sym (e ∙ ap (λ xs. at_id xs id) same)

-- all items of a level are passed
pub finished : (one : ℕ → List Visit) (ids : List ℕ) (index : ℕ) (before after whole : List Visit) → length ids ≤ index
    → after ++ flat_map one (drop index ids) ≡ before ++ flat_map one ids → whole ≡ flat_map one ids → after ≡ before ++ whole
finished one ids index before after whole past is w =
    sym (ap (λ x. after ++ flat_map one x) (drop_all index ids past) ∙ append-nil after) ∙ is ∙ ap (λ x. before ++ x) (sym w)

-- one more item of a level is passed
pub passed : (one : ℕ → List Visit) (ids : List ℕ) (index id d : ℕ) (before after whole : List Visit) → index < length ids → id ≡ get_or ids index d
    → after ≡ before ++ one id → before ++ flat_map one (drop index ids) ≡ whole → after ++ flat_map one (drop (index + 1) ids) ≡ whole
passed one ids index id d before after whole l at e was =
    ap (λ x. x ++ flat_map one (drop (index + 1) ids)) e ∙ append_assoc before (one id) (flat_map one (drop (index + 1) ids))
    ∙ ap (λ (i : ℕ). before ++ (one i ++ flat_map one (drop (index + 1) ids))) at
    ∙ ap (λ is. before ++ flat_map one is) (sym (drop_more ids index d l)) ∙ was
