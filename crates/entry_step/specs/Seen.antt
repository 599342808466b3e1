-- What a trigger sees of the histories of its items.
use Rattle.std.specs.Prelude.{ℕ, ◌==◌, not, List, [], ◌∷◌, length, take, map, filter, Option, Some, None, ℤ}
use Rattle.zbx_types.specs.declared.calls.Range.TheVariants.{Count}
use Rattle.zbx_types.specs.declared.entries.Held.{Held}
use Rattle.zbx_types.specs.declared.entries.Stored.{Stored}
use Rattle.zbx_types.specs.declared.triggers.Trigger.{Trigger}
use Rattle.value_cache.specs.Windows.{window_of}
use Rattle.entry_step.specs.Evaluation.{call_value}
use Rattle.entry_step.specs.declared.occasions.Occasion.{Occasion}

-- the value of the first of a window
abbrev pub first_held : List Stored → Option Held
first_held [] = None
first_held (s ∷ rest) = Some s.value

-- the latest value of a history up to a moment
abbrev pub latest_in : ℕ → List Stored → Option Held
latest_in now history = first_held (window_of (Count 1) 0 now history)

-- the latest values up to a moment of the items of a trigger's history calls, in the order of the calls. A call
-- without an item has item 0.
unfoldable pub shown_values : (ℕ → List Stored) → ℕ → Trigger → List (Option Held)
shown_values items now trigger =
    map (λ item. latest_in now (items item)) (filter (λ item. not (item == 0))
    (take (length trigger.calls) trigger.call_items))

-- the values of a trigger's calls, by their places, and the values that its events show
pub record Seen : Type 0 where
  pub calls : ℕ → Option ℤ
  pub values : List (Option Held)

-- what it sees on an occasion, at an offset from UTC in seconds
abbrev pub seen_in : (ℕ → List Stored) → Occasion → ℤ → Trigger → Seen
seen_in items occasion offset trigger = record {
  calls = call_value items occasion offset trigger;
  values = shown_values items occasion.now trigger;
}
