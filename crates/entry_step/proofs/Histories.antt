-- What evaluations see of histories.
use Rattle.std.proofs.Common.{◌≡◌, zero, suc, inl, inr, ℕ, ◌==◌, Bool, true, false, cond, not, Option, Some, None, List, [], ◌∷◌, map, filter, take, length, slice_get, refl, sym, ◌∙◌, ap, option_and_then, ℤ}
use mathlib.Core.Path.{fun_ext}
use Rattle.zbx_types.specs.declared.conf.Conf.{Conf}
use Rattle.zbx_types.specs.declared.calls.Call.{Call}
use Rattle.zbx_types.specs.declared.triggers.Trigger.{Trigger}
use Rattle.zbx_types.specs.declared.entries.Held.{Held}
use Rattle.zbx_types.specs.declared.entries.Stored.{Stored}
use Rattle.value_cache.specs.Windows.{window_of}
use Rattle.history_functions.specs.Functions.{value_of}
use Rattle.entry_step.specs.declared.occasions.Occasion.{Occasion}
use Rattle.entry_step.specs.Each.{In}
use Rattle.entry_step.specs.Kept.{IsCalled}
use Rattle.entry_step.specs.Evaluation.{call_value}
use Rattle.entry_step.specs.Seen.{latest_in, shown_values, Seen, seen_in}

-- histories that are the same to a trigger
abbrev pub SameTo : Conf → (ℕ → List Stored) → (ℕ → List Stored) → ℕ → Type 0
SameTo conf a b id = (item : ℕ) → IsCalled conf id item → a item ≡ b item

pub get_in : (xs : List ℕ) (k x : ℕ) → slice_get xs k ≡ Some x → In x xs
get_in [] k x e = cc
get_in (y ∷ ys) zero x e = let q : y ≡ x = cc in inl (sym q)
get_in (y ∷ ys) (suc k) x e = inr (get_in ys k x e)

call_same : (occasion : Occasion) (offset : ℤ) (a b : ℕ → List Stored) (trigger : Trigger) → ((item : ℕ) → In item trigger.call_items → a item ≡ b item) → (place : ℕ) → call_value a occasion offset trigger place ≡ call_value b occasion offset trigger place
unfolding call_value
call_same occasion offset a b trigger h place = go (slice_get trigger.calls place) (slice_get trigger.call_items place) refl
  where
    value : Call → List Stored → Option ℤ
    value c history = value_of c (window_of c.range c.shift occasion.now history) occasion.now occasion.tick offset

    go : (c : Option Call) (i : Option ℕ) → slice_get trigger.call_items place ≡ i → option_and_then (λ c. option_and_then (λ item. value c (a item)) i) c ≡ option_and_then (λ c. option_and_then (λ item. value c (b item)) i) c
    go None i e = refl
    go (Some c) None e = refl
    go (Some c) (Some item) e = ap (value c) (h item (get_in trigger.call_items place item e))

-- what events show
in_take : (n : ℕ) (xs : List ℕ) (x : ℕ) → In x (take n xs) → In x xs
in_take zero xs x i = absurd i
in_take (suc n) [] x i = absurd i
in_take (suc n) (y ∷ ys) x (inl q) = inl q
in_take (suc n) (y ∷ ys) x (inr i) = inr (in_take n ys x i)

shown_same : (now : ℕ) (a b : ℕ → List Stored) (items : List ℕ) → ((item : ℕ) → In item items → a item ≡ b item)
    → map (λ item. latest_in now (a item)) (filter (λ item. not (item == 0)) items) ≡ map (λ item. latest_in now (b item)) (filter (λ item. not (item == 0)) items)
shown_same now a b [] h = refl
shown_same now a b (item ∷ items) h = go (not (item == 0)) (shown_same now a b items (λ i k. h i (inr k)))
  where
    rest : List ℕ
    rest = filter (λ i. not (i == 0)) items

    go : (t : Bool) → map (λ i. latest_in now (a i)) rest ≡ map (λ i. latest_in now (b i)) rest → map (λ i. latest_in now (a i)) (cond t (item ∷ rest) rest) ≡ map (λ i. latest_in now (b i)) (cond t (item ∷ rest) rest)
    go true e = ap (λ history. latest_in now history ∷ map (λ i. latest_in now (a i)) rest) (h item (inl refl)) ∙ ap (λ vs. latest_in now (b item) ∷ vs) e
    go false e = e

pub sight_same : (occasion : Occasion) (offset : ℤ) (a b : ℕ → List Stored) (trigger : Trigger) → ((item : ℕ) → In item trigger.call_items → a item ≡ b item) → seen_in a occasion offset trigger ≡ seen_in b occasion offset trigger
unfolding shown_values
sight_same occasion offset a b trigger h =
    let make : (ℕ → Option ℤ) → List (Option Held) → Seen = λ calls values. record { calls = calls; values = values } in
    ap (λ calls. make calls (shown_values a occasion.now trigger)) (fun_ext (call_same occasion offset a b trigger h))
    ∙ ap (make (call_value b occasion offset trigger)) (shown_same occasion.now a b (take (length trigger.calls) trigger.call_items) (λ item i. h item (in_take (length trigger.calls) trigger.call_items item i)))
