-- What calls ask for.
use Rattle.std.proofs.Common.{◌≡◌, ◌≤◌, ◌<◌, ◌+◌, ◌-◌, ◌==◌, ℕ, zero, suc, Bool, true, false, cond, List, [], ◌∷◌, ◌++◌, length, map, get_or, slice_get, Some, None, All, refl, sym, ◌∙◌, ap, subst, take}
use Rattle.std.proofs.lemmas.Option.{slice_get_within, get_or_from_slice_get}
use Rattle.std.proofs.lemmas.List.{take_more}
use Rattle.std.proofs.lemmas.List.Elements.{All-get_or, All-more}
use Rattle.zbx_types.specs.Ids.{at_id}
use Rattle.zbx_types.specs.Operators.{call_pattern}
use Rattle.zbx_types.specs.declared.calls.Call.{Call}
use Rattle.zbx_types.specs.declared.triggers.Trigger.{Trigger}
use Rattle.history_functions.specs.Matching.{pattern_place}
use Rattle.value_cache.specs.Keeps.{seconds_in, most_seconds}
use Rattle.conf_index.specs.Asked.{places_of, IsAsked, AreAsked}
use Rattle.zbx_types.proofs.RowLemmas.{at_zero}

-- A call without a pattern, and one whose pattern was found
pub no_pattern : (patterns : List (List ℕ)) (call : Call) → call_pattern call ≡ None → at_id patterns (pattern_place (call_pattern call) patterns) ≡ call_pattern call
no_pattern patterns call e = ap (λ p. at_id patterns (pattern_place p patterns)) e ∙ at_zero patterns ∙ sym e

pub no_place : (patterns : List (List ℕ)) (call : Call) → call_pattern call ≡ None → 0 ≡ pattern_place (call_pattern call) patterns
no_place patterns call e = ap (λ p. pattern_place p patterns) (sym e)

pub pattern_there : (patterns : List (List ℕ)) (call : Call) (text : List ℕ) (place : ℕ) → call_pattern call ≡ Some text → place ≡ pattern_place (Some text) patterns → at_id patterns place ≡ Some text
    → at_id patterns (pattern_place (call_pattern call) patterns) ≡ call_pattern call
pattern_there patterns call text place e p there = ap (λ o. at_id patterns (pattern_place o patterns)) e ∙ ap (at_id patterns) (sym p) ∙ there ∙ sym e

-- a trigger that is there, in a list of what belongs to triggers
of_trigger : {B : Type 0} (f : Trigger → B) (triggers : List Trigger) (id : ℕ) (trigger : Trigger) (d : B) → at_id triggers id ≡ Some trigger → get_or (map f triggers) (id - 1) d ≡ f trigger
unfolding at_id
of_trigger {B} f triggers id trigger d found = go (id == 0) found
  where
    at : (ts : List Trigger) (k : ℕ) → slice_get ts k ≡ Some trigger → get_or (map f ts) k d ≡ f trigger
    at [] k e = cc
    at (t ∷ ts) zero e = let q : t ≡ trigger = cc in ap f q
    at (t ∷ ts) (suc k) e = at ts k e

    go : (b : Bool) → cond b None (slice_get triggers (id - 1)) ≡ Some trigger → get_or (map f triggers) (id - 1) d ≡ f trigger
    go true e = cc
    go false e = at triggers (id - 1) e

of_call : (f : Call → ℕ) (calls : List Call) (place : ℕ) (call : Call) → slice_get calls place ≡ Some call → get_or (map f calls) place 0 ≡ f call
of_call f [] k call e = cc
of_call f (c ∷ cs) zero call e = let q : c ≡ call = cc in ap f q
of_call f (c ∷ cs) (suc k) call e = of_call f cs k call e

all_at : {A : Type 0} (P : A → Type 0) (xs : List A) (k : ℕ) (x : A) → All P xs → slice_get xs k ≡ Some x → P x
all_at P xs k x all e = subst P (get_or_from_slice_get xs k x x e) (All-get_or P xs k x (slice_get_within xs k x e) all)

slice_of : {A : Type 0} (xs : List A) (id : ℕ) (x : A) → at_id xs id ≡ Some x → slice_get xs (id - 1) ≡ Some x
unfolding at_id
slice_of xs id x e = go (id == 0) e
  where
    go : (b : Bool) → cond b None (slice_get xs (id - 1)) ≡ Some x → slice_get xs (id - 1) ≡ Some x
    go true e = cc
    go false e = e

-- the place of the pattern of a trigger's call
pub asked_at : (patterns : List (List ℕ)) (triggers : List Trigger) (row : List ℕ) (found id place : ℕ) (trigger : Trigger) (call : Call) → row ≡ get_or (map (places_of patterns) triggers) (id - 1) [] → found ≡ get_or row place 0
    → AreAsked patterns triggers → at_id triggers id ≡ Some trigger → slice_get trigger.calls place ≡ Some call → (at_id patterns found ≡ call_pattern call) × (call.shift + seconds_in call.range ≤ most_seconds)
asked_at patterns triggers row found id place trigger call rows is asked there at =
    let one : IsAsked patterns call = all_at (IsAsked patterns) trigger.calls place call (all_at (λ t. All (IsAsked patterns) t.calls) triggers (id - 1) trigger asked (slice_of triggers id trigger there)) at in
    let placed : found ≡ pattern_place (call_pattern call) patterns =
    is ∙ ap (λ (r : List ℕ). get_or r place 0) (rows ∙ of_trigger (places_of patterns) triggers id trigger [] there) ∙ of_call (λ c. pattern_place (call_pattern c) patterns) trigger.calls place call at in
    (ap (at_id patterns) placed ∙ one.pattern, one.period)

-- a map so far, with one more
pub map_more : {A B : Type 0} (f : A → B) (xs : List A) (k : ℕ) (x : A) (made next : List B) (y : B) → k < length xs → x ≡ get_or xs k x → next ≡ made ++ y ∷ [] → y ≡ f x → made ≡ map f (take k xs) → next ≡ map f (take (k + 1) xs)
map_more {A} {B} f xs k x made next y l is n w m =
    n ∙ ap (λ ys. ys ++ y ∷ []) m ∙ ap (λ z. map f (take k xs) ++ z ∷ []) w ∙ sym (push (take k xs)) ∙ ap (map f) (sym (take_more xs k x l ∙ ap (λ z. take k xs ++ z ∷ []) (sym is)))
  where
    push : (zs : List A) → map f (zs ++ x ∷ []) ≡ map f zs ++ f x ∷ []
    push [] = refl
    push (z ∷ zs) = ap (λ ys. f z ∷ ys) (push zs)

pub all_more : {A : Type 0} (P : A → Type 0) (xs : List A) (k : ℕ) (x : A) → k < length xs → x ≡ get_or xs k x → P x → All P (take k xs) → All P (take (k + 1) xs)
all_more P xs k x l is holds all = All-more P xs k x l all (subst P is holds)
