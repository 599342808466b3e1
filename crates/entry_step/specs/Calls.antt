-- The calls of a trigger over cells.
use Rattle.std.specs.Prelude.{◌≡◌, ℕ, List, Option, IfSome, ℤ}
use Rattle.zbx_types.specs.declared.entries.Held.{Held}
use Rattle.zbx_types.specs.declared.entries.Stored.{Stored}
use Rattle.conf_index.specs.Evaluation.{value_in}
use Rattle.value_cache.specs.Cells.{CellView}
use Rattle.value_cache.specs.Tokens.{CacheId, AreOf}
use Rattle.preprocess.specs.Cached.{DraftView}
use Rattle.preprocess.specs.Draft.{AreIn}
use Rattle.entry_step.specs.Kept.{still_to_come, SeesFor}
use Rattle.entry_step.specs.Evaluation.{call_value}
use Rattle.entry_step.specs.Seen.{shown_values, Seen}
use Rattle.entry_step.specs.declared.calls.Calls.{Calls}

-- what is kept shows the trigger these histories
abbrev pub Shown : Calls → (ℕ → List Stored) → Type 0
Shown calls items =
    SeesFor calls.ready.now.conf calls.items.now (still_to_come calls.coming.now) calls.occasion.now items calls.id

-- the tokens of these cells, and of what is still to come, are of this vector
abbrev pub AreSeenIn : CacheId → List CellView → Option DraftView → Type 0
AreSeenIn cache cells coming = AreIn cache cells × IfSome coming (λ draft. AreOf cache draft.tokens)

-- those of a trigger's calls are of the cache
abbrev pub AreCached : Calls → Type 0
AreCached calls = AreSeenIn calls.cache.now calls.items.now calls.coming.now

-- the values of the calls, by their places, over histories
abbrev pub values_of : Calls → (ℕ → List Stored) → ℕ → Option ℤ
values_of calls items = call_value items calls.occasion calls.ready.now.conf.utc_offset calls.trigger.now

-- these are the values of the calls over all histories that the trigger is shown
abbrev pub AreValues : Calls → List (Option ℤ) → Type 0
AreValues calls values =
    (items : ℕ → List Stored) → Shown calls items → (place : ℕ) → value_in values place ≡ values_of calls items place

-- these are the values that events show, over all histories that the trigger is shown
abbrev pub AreShown : Calls → List (Option Held) → Type 0
AreShown calls values =
    (items : ℕ → List Stored) → Shown calls items → values ≡ shown_values items calls.occasion.now calls.trigger.now

-- what the trigger sees of histories, where its calls have these values
abbrev pub sight_of : Calls → List (Option ℤ) → (ℕ → List Stored) → Seen
sight_of calls values items =
    record { calls = value_in values; values = shown_values items calls.occasion.now calls.trigger.now }
