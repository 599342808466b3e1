-- Starts, and cells, over which later entries make the same. What is in force at two of them differs at most in the origins
-- that it tells of the events of earlier entries.
use Rattle.std.specs.Prelude.{◌≡◌, ◌≤◌, ◌<◌, ◌⊎◌, ℕ, ◌+◌, List, [], map, Some, slice_get}
use Rattle.zbx_types.specs.Entries.{moment_of}
use Rattle.zbx_types.specs.Ids.{at_id}
use Rattle.zbx_types.specs.declared.calls.Call.{Call}
use Rattle.zbx_types.specs.declared.conf.Conf.{Conf}
use Rattle.zbx_types.specs.declared.entries.EventId.{EventId}
use Rattle.zbx_types.specs.declared.entries.Numbered.{Numbered}
use Rattle.zbx_types.specs.declared.triggers.Trigger.{Trigger}
use Rattle.trigger_state.specs.Problems.{event_in}
use Rattle.trigger_state.specs.Stages.{Stage, rank_of}
use Rattle.trigger_state.specs.declared.problems.Open.{Open}
use Rattle.trigger_state.specs.declared.stage.Origin.{Origin}
use Rattle.value_cache.specs.Cells.{trim}
use Rattle.value_cache.specs.Histories.{IsOrdered}
use Rattle.value_cache.specs.Keeps.{seconds_in, most_seconds, keep_of}
use Rattle.value_cache.specs.declared.keeping.Keep.{Keep}
use Rattle.entry_step.specs.Behind.{behind}
use Rattle.entry_step.specs.Cells.{ItemCell, ItemKey, TickKey, Cells, opens_in, records, after, look}
use Rattle.entry_step.specs.Each.{Each, In}
use Rattle.entry_step.specs.Log.{IsRising, Suits}
use Rattle.entry_step.specs.Records.{replay}
use Rattle.entry_step.specs.Represents.{AllAtHome}
use Rattle.entry_step.specs.Start.{Start}

-- the shift and the period of each call can be counted
abbrev pub HasShortPeriods : Conf → Type 0
HasShortPeriods conf = (id place : ℕ) (trigger : Trigger) (call : Call) → at_id conf.triggers id ≡ Some trigger
    → slice_get trigger.calls place ≡ Some call → call.shift + seconds_in call.range ≤ most_seconds

-- no event of another configuration is of a later entry than this number
abbrev pub AreUpTo : ℕ → Stage → Type 0
AreUpTo number stage = Each (λ (origin : Origin). origin.event.number ≤ number) stage.origins

-- an event isn't made behind another one: by the number of its entry, by rank, by trigger
abbrev pub IsMadeBefore : Stage → EventId → EventId → Type 0
IsMadeBefore stage v w =
    (v.number < w.number)
    ⊎ ((v.number ≡ w.number)
    × ((rank_of stage v < rank_of stage w) ⊎ ((rank_of stage v ≡ rank_of stage w) × (v.trigger ≤ w.trigger))))

-- an open problem whatever the rank of its event
abbrev pub unranked : Open → Open
unranked o = record { problem = o.problem; steps = o.steps; rank = 0 }

-- an event is that of one of these open problems
abbrev pub IsOpen : (ℕ → List Open) → EventId → Type 0
IsOpen all event = (id : ℕ) × In event (map event_in (all id))

-- the open problems of all triggers, up to the entry with this number, are alike: they are the same but for the ranks of
-- their events, each is at home at its trigger, and they were made in one order
pub record AlikeOpens (stage other : Stage) (number : ℕ) (all others : ℕ → List Open) : Type 0 where
  pub same : (id : ℕ) → map unranked (all id) ≡ map unranked (others id)
  pub homes : (id : ℕ) → AllAtHome stage id (all id)
  pub homes_too : (id : ℕ) → AllAtHome other id (others id)
  pub upto : (event : EventId) → IsOpen all event → event.number ≤ number
  pub order : (v w : EventId) → IsOpen all v → IsOpen all w → IsMadeBefore stage v w → IsMadeBefore other v w

-- two cells of an item remember the same, and from a moment on have the same of what is to be kept of their histories
pub record AlikeItem (keep : Keep) (now : ℕ) (one other : ItemCell) : Type 0 where
  pub marks : one.marks ≡ other.marks
  pub ordered : IsOrdered one.history
  pub ordered_too : IsOrdered other.history
  pub kept : (later : ℕ) → now ≤ later → trim keep later one.history ≡ trim keep later other.history

-- two families of cells are alike up to the entry with this number, from a moment on: those of items are, the open problems
-- are, and the first Tick is the same; and what is in force tells origins of no later events
pub record AlikeCells (stage other : Stage) (number now : ℕ) (c d : Cells) : Type 0 where
  pub origins : AreUpTo number stage
  pub origins_too : AreUpTo number other
  pub items : (id : ℕ) → AlikeItem (keep_of stage.conf id) now (c (ItemKey id)) (d (ItemKey id))
  pub opens : AlikeOpens stage other number (opens_in c) (opens_in d)
  pub tick : c TickKey ≡ d TickKey

-- two starts are alike: the same configuration is in force, the last number and moment are the same, and from then on the
-- cells are alike
pub record AreAlike (one other : Start) : Type 0 where
  pub conf : one.stage.conf ≡ other.stage.conf
  pub number : one.number ≡ other.number
  pub moment : one.moment ≡ other.moment
  pub cells : AlikeCells one.stage other.stage one.number one.moment (look one [] one.records) (look other [] other.records)

-- Over cells that are alike, a later entry that isn't of an earlier moment makes the same records, and leaves cells that are
-- alike up to it, from its own moment on.
abbrev pub AlikeEntry : Type 0
AlikeEntry = (stage other : Stage) (e : Numbered) (number now : ℕ) (c d : Cells) → HasShortPeriods stage.conf
    → stage.conf ≡ other.conf → number < e.number → now ≤ moment_of e.entry → AlikeCells stage other number now c d
    → (records stage c e ≡ records other d e)
    × AlikeCells stage other e.number (moment_of e.entry) (after stage c e) (after other d e)

-- Over starts that are alike, a log whose numbers rise and that suits them makes the same records, and leaves starts that
-- are alike.
abbrev pub AlikeLogs : Type 0
AlikeLogs = (one other : Start) (log : List Numbered) → HasShortPeriods one.stage.conf → AreAlike one other
    → IsRising one log → Suits one log
    → (replay one log ≡ replay other log) × AreAlike (behind one log) (behind other log)
