-- What calls are worth.
use Rattle.std.proofs.Common.{◌≡◌, ◌≤◌, ◌<◌, ◌⊎◌, inl, inr, ℕ, zero, suc, List, [], length, get_or, slice_get, Option, Some, None, ℤ, refl, sym, ◌∙◌, ap, subst, option_and_then, arith}
use Rattle.std.proofs.lemmas.Option.{slice_get_past}
use Rattle.std.proofs.lemmas.Bool.{cases_order}
use Rattle.zbx_types.specs.Ids.{at_id}
use Rattle.zbx_types.specs.declared.calls.Call.{Call}
use Rattle.zbx_types.specs.declared.calls.Range.{Range}
use Rattle.zbx_types.specs.declared.calls.Range.TheVariants.{Count, Period}
use Rattle.zbx_types.specs.declared.conf.Conf.{Conf}
use Rattle.zbx_types.specs.declared.triggers.Trigger.{Trigger}
use Rattle.zbx_types.specs.declared.entries.Stored.{Stored}
use Rattle.history_functions.specs.Functions.{value_of}
use Rattle.value_cache.specs.Cells.{CellView, IsWithin, Shows, ShowsWith}
use Rattle.value_cache.specs.Keeps.{keep_of}
use Rattle.value_cache.specs.Windows.{window_of}
use Rattle.value_cache.specs.declared.keeping.Keep.{Keep}
use Rattle.entry_step.specs.declared.occasions.Occasion.{Occasion}
use Rattle.entry_step.specs.Evaluation.{call_value}
use Rattle.entry_step.specs.History.{with_stored}
use Rattle.entry_step.specs.Kept.{Sees, IsCalled, SeesFor}
use Rattle.entry_step.proofs.Loops.{get_behind}

-- The value of a call that isn't there, of one without an item, and of one over its item
module _ (items : ℕ → List Stored) (occasion : Occasion) (offset : ℤ) (trigger : Trigger) (place : ℕ) where
  pub call_none : slice_get trigger.calls place ≡ None → None ≡ call_value items occasion offset trigger place
  unfolding call_value
  call_none e = sym (ap (option_and_then (λ call. option_and_then (λ item. value_of call (window_of call.range call.shift occasion.now (items item)) occasion.now occasion.tick offset) (slice_get trigger.call_items place))) e)

  pub item_none : (call : Call) → slice_get trigger.calls place ≡ Some call → slice_get trigger.call_items place ≡ None → None ≡ call_value items occasion offset trigger place
  unfolding call_value
  item_none call c e =
      sym (ap (option_and_then (λ call. option_and_then (λ item. value_of call (window_of call.range call.shift occasion.now (items item)) occasion.now occasion.tick offset) (slice_get trigger.call_items place))) c
      ∙ ap (option_and_then (λ item. value_of call (window_of call.range call.shift occasion.now (items item)) occasion.now occasion.tick offset)) e)

  pub call_is : (call : Call) (item : ℕ) → slice_get trigger.calls place ≡ Some call → slice_get trigger.call_items place ≡ Some item
      → value_of call (window_of call.range call.shift occasion.now (items item)) occasion.now occasion.tick offset ≡ call_value items occasion offset trigger place
  unfolding call_value
  call_is call item c e =
      sym (ap (option_and_then (λ call. option_and_then (λ item. value_of call (window_of call.range call.shift occasion.now (items item)) occasion.now occasion.tick offset) (slice_get trigger.call_items place))) c
      ∙ ap (option_and_then (λ item. value_of call (window_of call.range call.shift occasion.now (items item)) occasion.now occasion.tick offset)) e)

-- the window of no values
pub window_none : (range : Range) (shift now : ℕ) → [] ≡ window_of range shift now []
window_none (Count zero) shift now = refl
window_none (Count (suc n)) shift now = refl
window_none (Period p) shift now = refl

-- The window of a cell is that of the history that it shows
within : (keep other : Keep) (range : Range) (shift : ℕ) → keep ≡ other → IsWithin other range shift → IsWithin keep range shift
within keep other range shift e w = subst (λ k. IsWithin k range shift) (sym e) w

pub seen_plain : (conf : Conf) (id : ℕ) (cell : CellView) (stored : Option Stored) (range : Range) (shift now : ℕ) (values history : List Stored) → stored ≡ None → Shows cell range shift now values
    → Sees conf id (Some cell) stored now history → IsWithin (keep_of conf id) range shift → values ≡ window_of range shift now history
seen_plain conf id cell stored range shift now values history none shows sees w =
    shows sees.seen sees.before sees.by sees.keeps.1 (within cell.keep (keep_of conf id) range shift sees.keeps.0 w)
    ∙ ap (window_of range shift now) (sym (sees.is ∙ ap (λ o. with_stored o sees.before) none))

pub seen_beside : (conf : Conf) (id : ℕ) (cell : CellView) (stored : Option Stored) (s : Stored) (range : Range) (shift now : ℕ) (values history : List Stored) → stored ≡ Some s → ShowsWith cell s range shift now values
    → Sees conf id (Some cell) stored now history → IsWithin (keep_of conf id) range shift → values ≡ window_of range shift now history
seen_beside conf id cell stored s range shift now values history some shows sees w =
    shows sees.seen sees.before sees.by sees.keeps.1 (within cell.keep (keep_of conf id) range shift sees.keeps.0 w)
    ∙ ap (window_of range shift now) (sym (sees.is ∙ ap (λ o. with_stored o sees.before) some))

-- what a trigger sees of an item that it calls
pub empty_of : (conf : Conf) (cells : List CellView) (stored : ℕ → Option Stored) (now : ℕ) (items : ℕ → List Stored) (id item : ℕ) → at_id cells item ≡ None → SeesFor conf cells stored now items id → IsCalled conf id item → items item ≡ []
empty_of conf cells stored now items id item e sees called = subst (λ o. Sees conf item o (stored item) now (items item)) e (sees item called)

pub seen_of_cell : (conf : Conf) (cells : List CellView) (stored : ℕ → Option Stored) (now : ℕ) (items : ℕ → List Stored) (id item : ℕ) (cell : CellView) (more : Option Stored) → at_id cells item ≡ Some cell → more ≡ stored item
    → SeesFor conf cells stored now items id → IsCalled conf id item → Sees conf item (Some cell) more now (items item)
seen_of_cell conf cells stored now items id item cell more e m sees called =
    subst (λ o. Sees conf item (Some cell) o now (items item)) (sym m) (subst (λ o. Sees conf item o (stored item) now (items item)) e (sees item called))

-- the values of all calls
pub all_values : (items : ℕ → List Stored) (occasion : Occasion) (offset : ℤ) (trigger : Trigger) (values : List (Option ℤ)) (k : ℕ) → length values ≡ k → length trigger.calls ≤ k
    → ((place : ℕ) → place < k → get_or values place None ≡ call_value items occasion offset trigger place) → (place : ℕ) → get_or values place None ≡ call_value items occasion offset trigger place
all_values items occasion offset trigger values k size past values_are place = go (cases_order place k)
  where
    behind : k ≤ place → get_or values place None ≡ call_value items occasion offset trigger place
    behind l = let s = size in get_behind values place None (omega arith) ∙ call_none items occasion offset trigger place (slice_get_past trigger.calls place (omega arith))

    go : (place ≡ k) ⊎ ((place < k) ⊎ (k < place)) → get_or values place None ≡ call_value items occasion offset trigger place
    go (inl e) = behind (omega arith)
    go (inr (inl p)) = values_are place p
    go (inr (inr p)) = behind (omega arith)
