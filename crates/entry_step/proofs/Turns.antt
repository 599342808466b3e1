-- Triggers that are evaluated in turn, where some are passed over.
use Rattle.std.proofs.Common.{◌≡◌, ◌<◌, ◌+◌, ℕ, zero, suc, Bool, true, false, cond, inl, inr, Option, List, [], ◌∷◌, ◌++◌, length, filter, take, get_or, refl, sym, ◌∙◌, ap, subst, arith}
use Rattle.std.proofs.lemmas.List.{take_more}
use Rattle.std.proofs.lemmas.List.Elements.{filter-append}
use Rattle.trigger_state.specs.Stages.{Stage}
use Rattle.zbx_types.specs.declared.entries.Rec.{Rec}
use Rattle.zbx_types.specs.declared.entries.Stored.{Stored}
use Rattle.value_cache.specs.Cells.{CellView}
use Rattle.trigger_state.specs.declared.problems.Open.{Open}
use Rattle.entry_step.specs.declared.occasions.Occasion.{Occasion}
use Rattle.entry_step.specs.declared.changes.TriggerOutcome.{TriggerOutcome}
use Rattle.entry_step.specs.Each.{Each, In}
use Rattle.entry_step.specs.Kept.{SeesFor}
use Rattle.entry_step.specs.Records.{evaluated}
use Rattle.entry_step.specs.Represents.{problems_at}
use Rattle.entry_step.specs.Changes.{outcome_records, outcome_rows, AreTidy, Runs, RunsOn, Absorbed}
use Rattle.entry_step.proofs.Phases.{run_more}
use Rattle.entry_step.proofs.Loops.{get_last, in_at}
use Rattle.entry_step.proofs.Members.{each_at}

take_front : (xs ys : List ℕ) → take (length xs) (xs ++ ys) ≡ xs
take_front [] ys = refl
take_front (x ∷ xs) ys = ap (λ zs. x ∷ zs) (take_front xs ys)

take_last : (xs : List ℕ) (y : ℕ) → take (length xs + 1) (xs ++ y ∷ []) ≡ xs ++ y ∷ []
take_last xs y = let l : length xs < length (xs ++ y ∷ []) = below xs in take_more (xs ++ y ∷ []) (length xs) 0 l ∙ ap (λ zs. zs ++ get_or (xs ++ y ∷ []) (length xs) 0 ∷ []) (take_front xs (y ∷ [])) ∙ ap (λ z. xs ++ z ∷ []) (get_last xs y 0)
  where
    below : (zs : List ℕ) → length zs < length (zs ++ y ∷ [])
    below [] = omega arith
    below (z ∷ zs) = let ih = below zs in omega (arith, ih)

-- one trigger more
pub run_on : (stage : Stage) (occasion : Occasion) (cells : List CellView) (stored : ℕ → Option Stored) (rows next : List (List Open)) (id : ℕ) (made more : List Rec) (o : Option TriggerOutcome)
    → ((items : ℕ → List Stored) → SeesFor stage.conf cells stored occasion.now items id → outcome_records o ≡ evaluated stage occasion items (problems_at rows) id)
    → (AreTidy stage occasion.number rows → Absorbed stage rows (outcome_records o) (outcome_rows rows id o))
    → more ≡ made ++ outcome_records o → next ≡ outcome_rows rows id o → (asked : Bool) → asked ≡ true → RunsOn stage occasion cells stored asked id made rows more next
run_on stage occasion cells stored rows next id made more o records lands m n false q = cc
run_on stage occasion cells stored rows next id made more o records lands m n true q = λ items before ids tidy runs sees.
    let all : List ℕ = ids ++ id ∷ [] in
    subst (λ is. Runs stage (evaluated stage occasion items) before is more next) (take_last ids id)
    (run_more stage occasion items before rows next all (length ids) id made more o (within ids) (sym (get_last ids id 0)) (records items (sees refl)) lands m n tidy
    (subst (λ is. Runs stage (evaluated stage occasion items) before is made rows) (sym (take_front ids (id ∷ []))) runs))
  where
    within : (zs : List ℕ) → length zs < length (zs ++ id ∷ [])
    within [] = omega arith
    within (z ∷ zs) = let ih = within zs in omega (arith, ih)

-- a trigger that is passed over
pub run_past : (stage : Stage) (occasion : Occasion) (cells : List CellView) (stored : ℕ → Option Stored) (rows : List (List Open)) (id : ℕ) (made : List Rec) (asked : Bool) → asked ≡ false → RunsOn stage occasion cells stored asked id made rows made rows
run_past stage occasion cells stored rows id made true q = cc
run_past stage occasion cells stored rows id made false q = λ items before ids tidy runs sees. runs

-- the triggers so far that are evaluated, with one more
pub asked_more : (p : ℕ → Bool) (ids : List ℕ) (k : ℕ) → k < length ids → filter p (take (k + 1) ids) ≡ cond (p (get_or ids k 0)) (filter p (take k ids) ++ get_or ids k 0 ∷ []) (filter p (take k ids))
asked_more p ids k l =
    ap (filter p) (take_more ids k 0 l) ∙ filter-append p (take k ids) (get_or ids k 0 ∷ []) ∙ go (p (get_or ids k 0))
  where
    front : List ℕ
    front = filter p (take k ids)

    none : (xs : List ℕ) → xs ++ [] ≡ xs
    none [] = refl
    none (x ∷ xs) = ap (λ zs. x ∷ zs) (none xs)

    go : (b : Bool) → front ++ cond b (get_or ids k 0 ∷ []) [] ≡ cond b (front ++ get_or ids k 0 ∷ []) front
    go true = refl
    go false = none front

-- and how many they are
pub count_more : (p : ℕ → Bool) (ids : List ℕ) (k : ℕ) → k < length ids → length (filter p (take (k + 1) ids)) ≡ length (filter p (take k ids)) + cond (p (get_or ids k 0)) 1 0
count_more p ids k l = ap length (asked_more p ids k l) ∙ go (p (get_or ids k 0))
  where
    front : List ℕ
    front = filter p (take k ids)

    longer : (xs : List ℕ) (x : ℕ) → length (xs ++ x ∷ []) ≡ length xs + 1
    longer [] x = omega arith
    longer (y ∷ xs) x = let ih = longer xs x in omega (arith, ih)

    go : (b : Bool) → length (cond b (front ++ get_or ids k 0 ∷ []) front) ≡ length front + cond b 1 0
    go true = longer front (get_or ids k 0)
    go false = omega arith

-- no part is longer than the whole
pub count_within : (p : ℕ → Bool) (ids : List ℕ) (k : ℕ) → k < length ids → length (filter p (take k ids)) + cond (p (get_or ids k 0)) 1 0 < length (filter p ids) + 1
count_within p [] k l = absurd (omega (arith, l))
count_within p (x ∷ ids) zero l = go (p x)
  where
    go : (b : Bool) → 0 + cond b 1 0 < length (cond b (x ∷ filter p ids) (filter p ids)) + 1
    go true = omega arith
    go false = omega arith
count_within p (x ∷ ids) (suc k) l = let ih = count_within p ids k (omega (arith, l)) in go ih (p x)
  where
    go : length (filter p (take k ids)) + cond (p (get_or ids k 0)) 1 0 < length (filter p ids) + 1 → (b : Bool)
        → length (cond b (x ∷ filter p (take k ids)) (filter p (take k ids))) + cond (p (get_or ids k 0)) 1 0 < length (cond b (x ∷ filter p ids) (filter p ids)) + 1
    go h true = omega (arith, h)
    go h false = h

in_filter : (p : ℕ → Bool) (xs : List ℕ) (x : ℕ) → In x xs → p x ≡ true → In x (filter p xs)
in_filter p [] x i e = absurd i
in_filter p (y ∷ ys) x i e = go (p y) refl i (λ j. in_filter p ys x j e)
  where
    go : (b : Bool) → p y ≡ b → In x (y ∷ ys) → (In x ys → In x (filter p ys)) → In x (cond b (y ∷ filter p ys) (filter p ys))
    go true q (inl s) ih = inl s
    go true q (inr j) ih = inr (ih j)
    go false q (inl s) ih = let z : p x ≡ false = ap p s ∙ q in let w = e in cc
    go false q (inr j) ih = ih j

-- each that is evaluated has the property
pub each_asked : (P : ℕ → Type 0) (p : ℕ → Bool) (ids : List ℕ) (k : ℕ) → k < length ids → Each P (filter p ids) → p (get_or ids k 0) ≡ true → P (get_or ids k 0)
each_asked P p ids k l each e = each_at P (filter p ids) each (get_or ids k 0) (in_filter p ids (get_or ids k 0) (in_at ids k l) e)
