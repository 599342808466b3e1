-- Starts such as entries leave them, and the laws of logs under one configuration.
use Rattle.std.specs.Prelude.{◌≡◌, ◌≤◌, ◌^◌, ℕ, List, [], ◌++◌, Some, None, unsigned_abs}
use Rattle.zbx_types.specs.Ids.{at_id}
use Rattle.zbx_types.specs.declared.entries.Held.{Held}
use Rattle.zbx_types.specs.declared.entries.Held.TheVariants as held
use Rattle.zbx_types.specs.declared.entries.Numbered.{Numbered}
use Rattle.zbx_types.specs.declared.entries.Rec.{Rec}
use Rattle.zbx_types.specs.declared.entries.Rec.TheVariants.{Failure, Problem, Recovery, Step, Message}
use Rattle.zbx_types.specs.declared.items.Item.{Item}
use Rattle.zbx_types.specs.declared.items.ValueType.{ValueType}
use Rattle.zbx_types.specs.declared.items.ValueType.TheVariants as type
use Rattle.value_cache.specs.Histories.{IsOrdered}
use Rattle.trigger_state.specs.Problems.{event_in, open_of}
use Rattle.trigger_state.specs.Stages.{Stage}
use Rattle.trigger_state.specs.declared.problems.Open.{Open}
use Rattle.entry_step.specs.Behind.{behind}
use Rattle.entry_step.specs.Each.{Each, EachPair}
use Rattle.entry_step.specs.Laws.{IsGood}
use Rattle.entry_step.specs.Log.{IsRising, Suits}
use Rattle.entry_step.specs.Records.{replay}
use Rattle.entry_step.specs.Start.{Start, fresh}
use Rattle.entry_laws.specs.Rising.{IsUpTo, HaveSteps, HaveOwnNames}
use Rattle.base_laws.specs.Alike.{HasShortPeriods, IsMadeBefore, AreAlike}
use Rattle.base_laws.specs.Bases.{Beside, beside_of, base_start, base_of}

-- a value is of a type, and a number is in range
abbrev pub IsOfType : ValueType → Held → Type 0
IsOfType type.Number (held.Number z) = unsigned_abs z ≤ 10 ^ 30
IsOfType type.Number (held.Words text) = ⊥
IsOfType type.Words (held.Number z) = ⊥
IsOfType type.Words (held.Words text) = Unit {0}

-- a Problem or a step isn't of a later entry than a Problem that comes behind it
abbrev pub ComesFirst : Rec → Rec → Type 0
ComesFirst r (Problem event now severity suppressed host trigger name tags) = IsUpTo event.number r
ComesFirst r (Failure number host key why) = Unit {0}
ComesFirst r (Recovery event by now cause) = Unit {0}
ComesFirst r (Step event action step now) = Unit {0}
ComesFirst r (Message event action step recipient subject body) = Unit {0}

-- open problems stand in the order in which they were made
abbrev pub AreInOrder : Stage → List Open → Type 0
AreInOrder stage os = EachPair (λ (o x : Open). IsMadeBefore stage (event_in o) (event_in x)) os

-- What stood before the entries of a log is such as entries leave it: it is good, its records have steps that rise, the
-- numbers of its problems don't fall, those open of each trigger stand in the order of making, its histories are in order
-- and of the types of their items, and what is no item of the configuration has no step.
pub record IsSound (start : Start) : Type 0 where
  pub good : IsGood start
  pub steps : HaveSteps start.number start.records
  pub numbers : EachPair ComesFirst start.records
  pub order : (id : ℕ) → AreInOrder start.stage (open_of start.stage start.records id)
  pub ordered : (id : ℕ) → IsOrdered (start.histories id)
  pub types : (id : ℕ) (item : Item) → at_id start.stage.conf.items id ≡ Some item
      → Each (λ s. IsOfType item.value_type s.value) (start.histories id)
  pub absent : (id : ℕ) → at_id start.stage.conf.items id ≡ None → start.marks id ≡ []

-- where no event is of another configuration, a fresh start is sound
abbrev pub FreshIsSound : Type 0
FreshIsSound = (stage : Stage) → stage.origins ≡ [] → IsSound (fresh stage)

-- behind a sound start, a log whose numbers rise leaves a sound start
abbrev pub BehindIsSound : Type 0
BehindIsSound = (start : Start) (log : List Numbered) → HaveOwnNames start.stage.conf.actions → IsSound start
    → IsRising start log → IsSound (behind start log)

-- The start that the base of a log is, where the same is in force, is alike to what the log leaves.
abbrev pub BaseIsAlike : Type 0
BaseIsAlike = (beside : Beside) (start : Start) (log : List Numbered) → HaveOwnNames start.stage.conf.actions → IsSound start
    → IsRising start log → AreAlike (behind start log) (base_start start.stage (base_of beside start log))

-- And it is sound again: bases can be made of what follows a base.
abbrev pub BaseIsSound : Type 0
BaseIsSound = (beside : Beside) (start : Start) (log : List Numbered) → HaveOwnNames start.stage.conf.actions → IsSound start
    → IsRising start log → IsSound (base_start start.stage (base_of beside start log))

-- entries whose numbers rise behind older ones, and that suit them, do so behind the base of these
abbrev pub FollowsBase : Type 0
FollowsBase = (beside : Beside) (start : Start) (newer older : List Numbered) → IsRising start (newer ++ older)
    → Suits start (newer ++ older)
    → IsRising (base_start start.stage (base_of beside start older)) newer
    × Suits (base_start start.stage (base_of beside start older)) newer

-- The central law: newer entries make behind the base of older ones what they make behind these, and leave the same base.
abbrev pub CentralLaw : Type 0
CentralLaw = (beside : Beside) (start : Start) (newer older : List Numbered) → HaveOwnNames start.stage.conf.actions
    → HasShortPeriods start.stage.conf → IsSound start → IsRising start (newer ++ older) → Suits start (newer ++ older)
    → (replay start (newer ++ older)
    ≡ replay start older ++ replay (base_start start.stage (base_of beside start older)) newer)
    × (base_of beside start (newer ++ older)
    ≡ base_of (beside_of (base_of beside start older)) (base_start start.stage (base_of beside start older)) newer)
