-- What goes on behind a configuration that follows another one.
use Rattle.std.proofs.Common.{◌≡◌, ◌∙◌, ◌<◌, ◌≤◌, ◌+◌, ◌⊎◌, inl, inr, ℕ, zero, suc, min, Bool, true, false, cond, List, [], ◌∷◌, ◌++◌, length, take, drop, map, get_or, Option, refl, sym, ap, ap₂, subst, append_assoc, arith}
use Rattle.std.specs.Prelude.{option_and_then}
use Rattle.std.proofs.lemmas.List.{take_more, drop_more}
use Rattle.zbx_types.specs.Ids.{at_id, ids_from}
use Rattle.zbx_types.specs.declared.conf.Conf.{Conf}
use Rattle.zbx_types.specs.declared.entries.Stored.{Stored}
use Rattle.zbx_types.specs.declared.steps.StepSpec.{StepSpec}
use Rattle.prep_steps.specs.Outcomes.{unmarked}
use Rattle.prep_steps.specs.declared.memory.StepMemory.{StepMemory}
use Rattle.value_cache.specs.Cells.{CellView, IsExact, trim}
use Rattle.value_cache.specs.Keeps.{keeps_of, keep_of}
use Rattle.value_cache.specs.declared.keeping.Keep.{Keep}
use Rattle.preprocess.specs.Carry.{same_step, carried_along, still_kept, carried_values, old_item}

-- ---- steps

-- steps whose first one goes on
pub goes_on : (olds steps : List StepSpec) (marks whole : List StepMemory) (p : ℕ) (o s : StepSpec)
    → p < min (min (length olds) (length marks)) (length steps) → o ≡ get_or olds p o → s ≡ get_or steps p s → same_step o s ≡ true
    → whole ≡ take p marks ++ carried_along (drop p olds) (drop p marks) (drop p steps)
    → whole ≡ take (p + 1) marks ++ carried_along (drop (p + 1) olds) (drop (p + 1) marks) (drop (p + 1) steps)
goes_on olds steps marks whole p o s l eo es same is =
    is
    ∙ ap (λ xs. take p marks ++ xs) (ap₂ (λ xs ys. carried_along xs (drop p marks) ys) po ps ∙ ap (λ ms. carried_along (o ∷ drop (p + 1) olds) ms (s ∷ drop (p + 1) steps)) pm ∙ first (same_step o s) same)
    ∙ sym (append_assoc (take p marks) (m ∷ []) rest)
    ∙ ap (λ xs. xs ++ rest) (sym (take_more marks p unmarked (omega (arith, l))))
  where
    m : StepMemory
    m = get_or marks p unmarked

    rest : List StepMemory
    rest = carried_along (drop (p + 1) olds) (drop (p + 1) marks) (drop (p + 1) steps)

    po : drop p olds ≡ o ∷ drop (p + 1) olds
    po = drop_more olds p o (omega (arith, l)) ∙ ap (λ (x : StepSpec). x ∷ drop (p + 1) olds) (sym eo)

    ps : drop p steps ≡ s ∷ drop (p + 1) steps
    ps = drop_more steps p s (omega (arith, l)) ∙ ap (λ (x : StepSpec). x ∷ drop (p + 1) steps) (sym es)

    pm : drop p marks ≡ m ∷ drop (p + 1) marks
    pm = drop_more marks p unmarked (omega (arith, l))

    first : (b : Bool) → b ≡ true → cond b (m ∷ rest) (map (λ x. unmarked) (s ∷ drop (p + 1) steps)) ≡ m ∷ rest
    first true e = refl
    first false e = absurd (cc)

-- steps whose first one doesn't
pub stops : (olds steps : List StepSpec) (marks whole : List StepMemory) (p : ℕ) (o s : StepSpec)
    → p < min (min (length olds) (length marks)) (length steps) → o ≡ get_or olds p o → s ≡ get_or steps p s → same_step o s ≡ false
    → whole ≡ take p marks ++ carried_along (drop p olds) (drop p marks) (drop p steps)
    → whole ≡ take p marks ++ map (λ x. unmarked) (drop p steps)
stops olds steps marks whole p o s l eo es differ is =
    is
    ∙ ap (λ xs. take p marks ++ xs) (ap₂ (λ xs ys. carried_along xs (drop p marks) ys) po ps ∙ ap (λ ms. carried_along (o ∷ drop (p + 1) olds) ms (s ∷ drop (p + 1) steps)) pm ∙ first (same_step o s) differ ∙ ap (map (λ x. unmarked)) (sym ps))
  where
    m : StepMemory
    m = get_or marks p unmarked

    rest : List StepMemory
    rest = carried_along (drop (p + 1) olds) (drop (p + 1) marks) (drop (p + 1) steps)

    po : drop p olds ≡ o ∷ drop (p + 1) olds
    po = drop_more olds p o (omega (arith, l)) ∙ ap (λ (x : StepSpec). x ∷ drop (p + 1) olds) (sym eo)

    ps : drop p steps ≡ s ∷ drop (p + 1) steps
    ps = drop_more steps p s (omega (arith, l)) ∙ ap (λ (x : StepSpec). x ∷ drop (p + 1) steps) (sym es)

    pm : drop p marks ≡ m ∷ drop (p + 1) marks
    pm = drop_more marks p unmarked (omega (arith, l))

    first : (b : Bool) → b ≡ false → cond b (m ∷ rest) (map (λ x. unmarked) (s ∷ drop (p + 1) steps)) ≡ map (λ x. unmarked) (s ∷ drop (p + 1) steps)
    first false e = refl
    first true e = absurd (cc)

none_left : {A : Type 0} (xs : List A) (p : ℕ) → length xs ≤ p → drop p xs ≡ []
none_left [] zero l = refl
none_left [] (suc p) l = refl
none_left (x ∷ xs) zero l = absurd (omega (arith, l))
none_left (x ∷ xs) (suc p) l = none_left xs p (omega (arith, l))

up_to : (n p : ℕ) → (n ≤ p) ⊎ (p < n)
up_to zero p = inl (omega arith)
up_to (suc n) zero = inr (omega arith)
up_to (suc n) (suc p) = go (up_to n p)
  where
    go : (n ≤ p) ⊎ (p < n) → (suc n ≤ suc p) ⊎ (suc p < suc n)
    go (inl a) = inl (omega (arith, a))
    go (inr a) = inr (omega (arith, a))

-- the least of three is one of them
least_at : (a b c p : ℕ) → min (min a b) c ≤ p → (a ≤ p) ⊎ ((b ≤ p) ⊎ (c ≤ p))
least_at a b c p l = go (up_to a p) (up_to b p)
  where
    go : (a ≤ p) ⊎ (p < a) → (b ≤ p) ⊎ (p < b) → (a ≤ p) ⊎ ((b ≤ p) ⊎ (c ≤ p))
    go (inl x) y = inl x
    go (inr x) (inl y) = inr (inl y)
    go (inr x) (inr y) = inr (inr (omega (arith, l, x, y)))

-- no step goes on behind the end of the old ones
pub ends : (olds steps : List StepSpec) (marks whole : List StepMemory) (p : ℕ) → min (min (length olds) (length marks)) (length steps) ≤ p
    → whole ≡ take p marks ++ carried_along (drop p olds) (drop p marks) (drop p steps)
    → whole ≡ take p marks ++ map (λ x. unmarked) (drop p steps)
ends olds steps marks whole p l is = is ∙ ap (λ xs. take p marks ++ xs) (go (drop p olds) refl (drop p marks) refl (drop p steps) refl)
  where
    go : (os : List StepSpec) → drop p olds ≡ os → (ms : List StepMemory) → drop p marks ≡ ms → (ss : List StepSpec) → drop p steps ≡ ss
        → carried_along os ms ss ≡ map (λ x. unmarked) ss
    go os eo ms em [] es = refl
    go [] eo ms em (s ∷ ss) es = refl
    go (o ∷ os) eo [] em (s ∷ ss) es = refl
    go (o ∷ os) eo (m ∷ ms) em (s ∷ ss) es = absurd (some_end (least_at (length olds) (length marks) (length steps) p l))
      where
        some_end : (length olds ≤ p) ⊎ ((length marks ≤ p) ⊎ (length steps ≤ p)) → ⊥
        some_end (inl q) = let n = none_left olds p q in cc
        some_end (inr (inl q)) = let n = none_left marks p q in cc
        some_end (inr (inr q)) = let n = none_left steps p q in cc

-- ---- lists

-- one more item of a list of what is made of each
pub made_on : {A B : Type 0} (f : A → B) (xs ys : List A) (i : ℕ) (x : A) (before after : List B) (y : B) → ys ≡ xs → i < length ys → x ≡ get_or ys i x
    → after ≡ before ++ y ∷ [] → y ≡ f x → before ++ map f (drop i xs) ≡ map f xs → after ++ map f (drop (i + 1) xs) ≡ map f xs
made_on f xs ys i x before after y same l at e is was =
    ap (λ zs. zs ++ map f (drop (i + 1) xs)) e
    ∙ append_assoc before (y ∷ []) (map f (drop (i + 1) xs))
    ∙ ap (λ z. before ++ z ∷ map f (drop (i + 1) xs)) is
    ∙ ap (λ zs. before ++ map f zs) (sym parts)
    ∙ was
  where
    within : i < length xs
    within = subst (λ zs. i < length zs) same l

    parts : drop i xs ≡ x ∷ drop (i + 1) xs
    parts = drop_more xs i x within ∙ ap (λ z. z ∷ drop (i + 1) xs) (sym (at ∙ ap (λ zs. get_or zs i x) same))

count_map : {A B : Type 0} (f : A → B) (xs : List A) → length (map f xs) ≡ length xs
count_map f [] = refl
count_map f (x ∷ xs) = ap suc (count_map f xs)

count_ids : {A : Type 0} (id : ℕ) (xs : List A) → length (ids_from id xs) ≡ length xs
count_ids id [] = refl
count_ids id (x ∷ xs) = ap suc (count_ids (id + 1) xs)

-- there is a rule for each item
pub as_many : (old new : Conf) (olds : List (Option ℕ)) → olds ≡ map (old_item old new) new.items → length olds ≡ length (keeps_of new)
as_many old new olds e = ap length e ∙ count_map (old_item old new) new.items ∙ sym (count_map (keep_of new) (ids_from 1 new.items) ∙ count_ids 1 new.items)

-- what stands at a place of a list of what is made of each
pub at_place : {A B : Type 0} (f : A → B) (xs : List A) (i : ℕ) (x : A) (y : B) → i < length xs → x ≡ get_or xs i x → y ≡ get_or (map f xs) i y → y ≡ f x
at_place f [] i x y l a b = absurd (omega arith)
at_place f (z ∷ xs) zero x y l a b = b ∙ ap f (sym a)
at_place f (z ∷ xs) (suc i) x y l a b = at_place f xs i x y (omega (arith, l)) a b

-- a place within a list of what is made of each
pub within_made : {A B : Type 0} (f : A → B) (xs ys : List A) (zs : List B) (i : ℕ) → ys ≡ xs → zs ≡ map f xs → i < length ys → i < length zs
within_made f xs ys zs i same e l = let a = ap length e ∙ count_map f xs in let b = ap length same in omega (arith, a, b, l)

-- ---- values

pub empty_trim : (keep : Keep) (now : ℕ) → trim keep now [] ≡ []
unfolding trim
empty_trim keep now = go keep.count [] refl
  where
    go : (n : ℕ) (xs : List Stored) → xs ≡ [] → take n xs ≡ []
    go zero xs e = refl
    go (suc n) [] e = refl
    go (suc n) (x ∷ xs) e = absurd (cc)

-- a new cell has no values
pub exact_empty : (cell : CellView) → IsExact cell 0 [] → cell.values ≡ []
exact_empty cell e = e.values ∙ empty_trim cell.keep 0

map_twice : {A B C : Type 0} (f : B → C) (g : A → B) (xs : List A) → map f (map g xs) ≡ map (λ x. f (g x)) xs
map_twice f g [] = refl
map_twice f g (x ∷ xs) = ap (λ ys. f (g x) ∷ ys) (map_twice f g xs)

-- the values by the ids of the old items are those by the new ones
pub values_are : (old new : Conf) (now : ℕ) (cells : List CellView) (olds : List (Option ℕ)) (made : List (List Stored)) → olds ≡ map (old_item old new) new.items
    → made ≡ map (λ id. still_kept now (option_and_then (at_id cells) id)) olds → made ≡ map (carried_values old new now cells) new.items
values_are old new now cells olds made e is =
    is ∙ ap (map (λ id. still_kept now (option_and_then (at_id cells) id))) e ∙ map_twice (λ id. still_kept now (option_and_then (at_id cells) id)) (old_item old new) new.items
