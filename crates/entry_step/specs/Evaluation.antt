-- The values of the calls of triggers. None is Unknown.
use Rattle.std.specs.Prelude.{ℕ, List, Option, ℤ, slice_get, option_and_then}
use Rattle.zbx_types.specs.declared.triggers.Trigger.{Trigger}
use Rattle.zbx_types.specs.declared.entries.Stored.{Stored}
use Rattle.value_cache.specs.Windows.{window_of}
use Rattle.history_functions.specs.Functions.{value_of}
use Rattle.entry_step.specs.declared.occasions.Occasion.{Occasion}

-- A call of a trigger, by its place, on an occasion, at an offset from UTC in seconds: the value of its function over
-- the window of the whole history of its item.
unfoldable pub call_value : (ℕ → List Stored) → Occasion → ℤ → Trigger → ℕ → Option ℤ
call_value items occasion offset trigger place =
    option_and_then (λ call. option_and_then (λ item. value_of call
    (window_of call.range call.shift occasion.now (items item)) occasion.now occasion.tick offset)
    (slice_get trigger.call_items place)) (slice_get trigger.calls place)
