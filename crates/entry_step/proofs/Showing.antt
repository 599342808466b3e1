-- What events show of the items of calls.
use Rattle.std.proofs.Common.{◌≡◌, ◌≢◌, ◌≤◌, ◌<◌, ◌+◌, ◌==◌, ℕ, zero, suc, Bool, true, false, cond, not, List, [], ◌∷◌, ◌++◌, length, map, filter, get_or, slice_get, drop, take, Option, Some, refl, sym, ◌∙◌, ap, arith, eqb-true, append_assoc, append-nil}
use Rattle.std.proofs.lemmas.List.{drop_more}
use Rattle.zbx_types.specs.Ids.{at_id}
use Rattle.zbx_types.specs.declared.calls.Call.{Call}
use Rattle.zbx_types.specs.declared.calls.Fun.{Fun}
use Rattle.zbx_types.specs.declared.calls.Fun.TheVariants.{Last, First, Min, Max, Avg, Sum, Change, Count as CountOf}
use Rattle.zbx_types.specs.declared.calls.Fun.TheVariants.{Find, NoData, Percentile, ChangeCount, MonoInc, MonoDec}
use Rattle.zbx_types.specs.declared.calls.Fun.TheVariants.{Now, Time, Date, DayOfWeek, DayOfMonth}
use Rattle.zbx_types.specs.declared.calls.Range.TheVariants.{Count}
use Rattle.zbx_types.specs.declared.conf.Conf.{Conf}
use Rattle.zbx_types.specs.declared.entries.Held.{Held}
use Rattle.zbx_types.specs.declared.entries.Stored.{Stored}
use Rattle.zbx_types.specs.declared.triggers.Trigger.{Trigger}
use Rattle.value_cache.specs.Cells.{IsWithin}
use Rattle.value_cache.specs.Keeps.{least_count, keep_of}
use Rattle.value_cache.specs.Laws.{AsksWithin}
use Rattle.entry_step.specs.Kept.{IsCalled}
use Rattle.entry_step.specs.Seen.{latest_in, shown_values}
use Rattle.entry_step.proofs.Histories.{get_in}

-- each function asks for a value at least
asks_one : (fun : Fun) → 1 ≤ least_count fun
asks_one Last = omega arith
asks_one First = omega arith
asks_one Min = omega arith
asks_one Max = omega arith
asks_one Avg = omega arith
asks_one Sum = omega arith
asks_one Change = omega arith
asks_one CountOf = omega arith
asks_one Find = omega arith
asks_one NoData = omega arith
asks_one Percentile = omega arith
asks_one ChangeCount = omega arith
asks_one MonoInc = omega arith
asks_one MonoDec = omega arith
asks_one Now = omega arith
asks_one Time = omega arith
asks_one Date = omega arith
asks_one DayOfWeek = omega arith
asks_one DayOfMonth = omega arith

-- the call at the place of an item
looked : (calls : List Call) (ids : List ℕ) (k x : ℕ) → k < length (take (length calls) ids) → x ≡ get_or (take (length calls) ids) k 0 → (call : Call) × (slice_get calls k ≡ Some call) × (slice_get ids k ≡ Some x)
looked [] ids k x l e = absurd (omega arith)
looked (c ∷ cs) [] k x l e = absurd (omega arith)
looked (c ∷ cs) (y ∷ ys) zero x l e = (c, refl, ap Some (sym e))
looked (c ∷ cs) (y ∷ ys) (suc k) x l e = looked cs ys k x (omega arith) e

-- the items of a trigger's calls, in the order of the calls
abbrev pub items_in : Trigger → List ℕ
items_in trigger = take (length trigger.calls) trigger.call_items

-- the latest values that items of a list show
abbrev pub shown_over : (ℕ → List Stored) → ℕ → List ℕ → List (Option Held)
shown_over items now ids = map (λ item. latest_in now (items item)) (filter (λ item. not (item == 0)) ids)

-- an item of a call is called, and keeps its latest value
pub called_at : (conf : Conf) (id k item : ℕ) (trigger : Trigger) → at_id conf.triggers id ≡ Some trigger → k < length (items_in trigger) → item ≡ get_or (items_in trigger) k 0 → IsCalled conf id item
called_at conf id k item trigger there l e = (trigger, there, get_in trigger.call_items k item (looked trigger.calls trigger.call_items k item l e).2)

pub within_at : (conf : Conf) (id k item : ℕ) (trigger : Trigger) → AsksWithin → at_id conf.triggers id ≡ Some trigger → k < length (items_in trigger) → item ≡ get_or (items_in trigger) k 0 → IsWithin (keep_of conf item) (Count 1) 0
within_at conf id k item trigger asks there l e =
    let at = looked trigger.calls trigger.call_items k item l e in
    let most = (asks conf id k item trigger at.0 there at.1 at.2).0 in
    let one = asks_one at.0.fun in
    (omega arith, omega arith)

-- what is shown so far, with what the rest shows
pub shown_skip : (items : ℕ → List Stored) (now : ℕ) (ids : List ℕ) (k item : ℕ) (made all : List (Option Held)) → k < length ids → item ≡ get_or ids k 0 → item ≡ 0
    → made ++ shown_over items now (drop k ids) ≡ all → made ++ shown_over items now (drop (k + 1) ids) ≡ all
shown_skip items now ids k item made all l is none so_far = ap (λ vs. made ++ vs) (sym (ap (shown_over items now) (drop_more ids k 0 l ∙ ap (λ x. x ∷ drop (k + 1) ids) (sym is ∙ none)))) ∙ so_far

pub shown_push : (items : ℕ → List Stored) (now : ℕ) (ids : List ℕ) (k item : ℕ) (made next all : List (Option Held)) (value : Option Held) → k < length ids → item ≡ get_or ids k 0 → item ≢ 0 → next ≡ made ++ value ∷ [] → value ≡ latest_in now (items item)
    → made ++ shown_over items now (drop k ids) ≡ all → next ++ shown_over items now (drop (k + 1) ids) ≡ all
shown_push items now ids k item made next all value l is some more worth so_far =
    ap (λ vs. vs ++ shown_over items now (drop (k + 1) ids)) more ∙ (append_assoc made (value ∷ []) (shown_over items now (drop (k + 1) ids))) ∙ ap (λ v. made ++ v ∷ shown_over items now (drop (k + 1) ids)) worth
    ∙ ap (λ vs. made ++ vs) (sym step) ∙ so_far
  where
    go : (b : Bool) → (item == 0) ≡ b → shown_over items now (item ∷ drop (k + 1) ids) ≡ latest_in now (items item) ∷ shown_over items now (drop (k + 1) ids)
    go true e = absurd (some (eqb-true item 0 e))
    go false e = ap (λ t. map (λ i. latest_in now (items i)) (cond (not t) (item ∷ filter (λ i. not (i == 0)) (drop (k + 1) ids)) (filter (λ i. not (i == 0)) (drop (k + 1) ids)))) e

    step : shown_over items now (drop k ids) ≡ latest_in now (items item) ∷ shown_over items now (drop (k + 1) ids)
    step = ap (shown_over items now) (drop_more ids k 0 l ∙ ap (λ x. x ∷ drop (k + 1) ids) (sym is)) ∙ go (item == 0) refl

pub shown_all : (items : ℕ → List Stored) (now : ℕ) (trigger : Trigger) (k : ℕ) (made : List (Option Held)) → length (items_in trigger) ≤ k → made ++ shown_over items now (drop k (items_in trigger)) ≡ shown_over items now (items_in trigger) → made ≡ shown_values items now trigger
unfolding shown_values
shown_all items now trigger k made past so_far = sym (append-nil made) ∙ ap (λ vs. made ++ vs) (sym (ap (shown_over items now) (drop_all k (items_in trigger) past))) ∙ so_far
  where
    drop_all : (k : ℕ) (xs : List ℕ) → length xs ≤ k → drop k xs ≡ []
    drop_all zero [] l = refl
    drop_all zero (x ∷ xs) l = absurd (omega arith)
    drop_all (suc k) [] l = refl
    drop_all (suc k) (x ∷ xs) l = drop_all k xs (omega arith)
