-- The events that a run takes from its wire.
use Rattle.std.specs.Prelude.{◌≡◌, ◌⊎◌, ◌≤◌, ◌<◌, ◌+◌, ℕ, List, [], ◌∷◌, ◌++◌, length, Option, Some, None, IfSome, Result, Ok, Err, IfOk, OnErr}
use Rattle.std.specs.Option.{option_to_list}
use Rattle.zbx_types.specs.declared.conf.Conf.{Conf}
use Rattle.zbx_types.specs.declared.entries.Numbered.{Numbered}
use Rattle.outside.specs.Causes.{Rose}
use Rattle.outside.specs.Tells.{WireTells}
use Rattle.outside.specs.declared.event.WireEvent.{WireEvent}
use Rattle.outside.specs.declared.event.Trouble.{Trouble}
use Rattle.outside.specs.declared.event.Trouble.TheVariants as trouble
use Rattle.entry_step.specs.Start.{Start}
use Rattle.intake_front.specs.Intake.{Limits, Intake, IsSound}
use Rattle.intake_front.specs.Served.{served}
use Rattle.intake_front.specs.Fronted.{Fronted, limits_of, refused_group}
use Rattle.intake_front.specs.Batch.{answered, HasTaken}
use Rattle.intake_front.specs.declared.answer.Stop.{Stop}
use Rattle.intake_front.specs.declared.answer.Stop.TheVariants as stop
use Rattle.server_words.specs.declared.status.Status.{Status}
use Rattle.server_run.specs.Sending.{Shows}
use Rattle.server_run.specs.Statuses.{Ending, at_wire_fault, anywhere, at_refusal, course_of, EndsAs, LeftIs}
use Rattle.server_run.specs.Stops.{refusing, RunsOn, IsReached}

-- what the disk of the journal did, by what a crash meanwhile left, why the run stopped, if it did, and its entries
abbrev pub Doing : Type 1
Doing = (List Numbered → Type 0) → Option Stop → List Numbered → Type 0

-- where a wire told its events, these were the next ones, then the one for which memory was refused, if any, and of the
-- others is left what such an ending leaves
abbrev pub Gave : Option (List WireEvent) → Option (List WireEvent) → List WireEvent → Option WireEvent → Ending
    → Type 0
Gave left left' events lost ending =
    IfSome left (λ all. (rest : List WireEvent) × (all ≡ events ++ (option_to_list lost ++ rest))
    × LeftIs ending lost left' rest)

-- how the taking of events ended that are committed together: with enough, or since the wire gave no more, or since
-- memory was refused
abbrev pub ending_of : Result (Unit {0}) Trouble → Ending
ending_of (Ok enough) = anywhere
ending_of (Err trouble.Failed) = at_wire_fault
ending_of (Err trouble.OutOfMemory) = at_refusal

-- A wire gave these events and no other, and then one for which memory was refused, if any. Nothing was sent or closed.
pub record HasGiven (wire wire' : WireTells) (events : List WireEvent) (lost : Option WireEvent)
    (ending : Ending) : Type 0 where
  pub given : wire'.given ≡ wire.given + length events + length (option_to_list lost)
  pub told : Gave wire.left wire'.left events lost ending
  pub sent_stays : wire'.sent ≡ wire.sent
  pub sends_stay : wire'.sends ≡ wire.sends
  pub closed_stays : wire'.closed ≡ wire.closed
  pub unsent_stays : wire'.unsent ≡ wire.unsent

-- Events were taken from a wire, and a front that was idle holds back what they are answered with; memory may have
-- been refused for one more. Nothing was sent or closed, and nothing was journaled.
pub record Gathered {D : Type 0} (conf : Conf) (old new : Fronted D) (wire wire' : WireTells) (count : ℕ)
    (stop : Option Stop) (lost : Option WireEvent) (ending : Ending) : Type 0 where
  pub events : List WireEvent
  pub count_is : count ≡ length events
  pub gives : HasGiven wire wire' events lost ending
  pub taken : HasTaken conf old.intake events new
  pub journal_stays : new.journal ≡ old.journal
  pub runs_on : (front : List WireEvent) (last : WireEvent) → events ≡ front ++ last ∷ []
      → (answered (limits_of old.journal 0) conf old.intake front).stop ≡ None
  pub stop_is : stop ≡ (answered (limits_of old.journal 0) conf old.intake events).stop
  pub intake_is : lost ≡ None → new.intake ≡ (answered (limits_of old.journal 0) conf old.intake events).intake
  pub sound : (flat : List ℕ → Conf) (ground : Start) → IsSound flat ground conf old.intake
      → IsSound flat ground conf (answered (limits_of old.journal 0) conf old.intake events).intake

-- by why no more were taken: none stopped before the wire failed or memory was refused
abbrev pub GatheredBy : {D : Type 0} → Conf → Fronted D → Fronted D → WireTells → WireTells → ℕ
    → Result (Unit {0}) Trouble → Type 0
GatheredBy conf old new wire wire' count (Ok enough) =
    (s : Option Stop) × Gathered conf old new wire wire' count s None anywhere
GatheredBy conf old new wire wire' count (Err trouble.Failed) =
    Gathered conf old new wire wire' count None None at_wire_fault
GatheredBy conf old new wire wire' count (Err trouble.OutOfMemory) =
    (lost : Option WireEvent) × Gathered conf old new wire wire' count None lost at_refusal

-- the same once one more event was to be taken behind some that didn't stop
abbrev pub GatheredMore : {D : Type 0} → Conf → Fronted D → Fronted D → WireTells → WireTells → ℕ
    → Result (Option Stop) Trouble → Type 0
GatheredMore conf old new wire wire' count (Ok s) = Gathered conf old new wire wire' (count + 1) s None anywhere
GatheredMore conf old new wire wire' count (Err trouble.Failed) =
    Gathered conf old new wire wire' count None None at_wire_fault
GatheredMore conf old new wire wire' count (Err trouble.OutOfMemory) =
    (lost : Option WireEvent) × Gathered conf old new wire wire' count None lost at_refusal

-- Some events were taken from a wire, the next ones where it tells them, and all were handled; memory may have been
-- refused for one more. The entries, what was sent and what was closed are those of the definition of what events
-- make, and so is the intake where the events go on. A crash meanwhile left entries that they reached.
pub record Ran (limits : Limits) (conf : Conf) (recovered : List Numbered) (start now : Intake) (did : Doing)
    (wire wire' : WireTells) (count : ℕ) (stop : Option Stop) (lost : Option WireEvent) (ending : Ending) : Type 0 where
  pub taken : List WireEvent
  pub count_is : count ≡ length taken
  pub given : wire'.given ≡ wire.given + count + length (option_to_list lost)
  pub told : Gave wire.left wire'.left taken lost ending
  pub entries_are : now.entries ≡ (served limits conf start taken).intake.entries
  pub intake_is : stop ≡ None → lost ≡ None → now ≡ (served limits conf start taken).intake
  pub runs_on : RunsOn limits conf start taken
  pub stop_is : stop ≡ (served limits conf start taken).stop
  pub shows : Shows wire wire' (served limits conf start taken).replies (served limits conf start taken).shut
  pub journaled : did (IsReached limits conf recovered start taken) stop now.entries
  pub later : wire.unsent ≤ wire'.unsent

-- Events were taken, at most so many, committed together and answered. The disk may have refused their groups: then
-- no entry was added. The entries are those of a sound intake, which is the one that goes on.
pub record Took (limits : Limits) (conf : Conf) (old new : Intake) (did : Doing) (wire wire' : WireTells)
    (most count : ℕ) (s : Option Stop) (gathered : Result (Unit {0}) Trouble) : Type 0 where
  pub lost : Option WireEvent
  pub ran : Ran (refusing limits (refused_group old s)) conf old.entries old new did wire wire' count s lost
      (ending_of gathered)
  pub few : count + length (option_to_list lost) ≤ most
  pub some : IfOk gathered (λ _. 0 < most → 0 < count)
  pub goes_on : OnErr gathered ((s ≡ None) ⊎ (s ≡ Some stop.DiskFault))
  pub lost_is : (lost ≡ None) ⊎ (gathered ≡ Err trouble.OutOfMemory)
  pub none_added : s ≡ Some stop.DiskFault → new.entries ≡ old.entries
  pub sound : (flat : List ℕ → Conf) (ground : Start) → IsSound flat ground conf old → (i : Intake) × IsSound flat ground conf i
      × (new.entries ≡ i.entries) × (s ≡ None → lost ≡ None → new ≡ i)

-- the last events of a run were taken, at most so many, committed together and answered, and the run ends with this
-- status
pub record Ends (limits : Limits) (conf : Conf) (old new : Intake) (did : Doing) (wire wire' : WireTells) (most : ℕ)
    (s : Status) : Type 0 where
  pub count : ℕ
  pub stop : Option Stop
  pub lost : Option WireEvent
  pub ending : Ending
  pub ran : Ran (refusing limits (refused_group old stop)) conf old.entries old new did wire wire' count stop lost
      ending
  pub few : count + length (option_to_list lost) ≤ most
  pub ends : (turns all : ℕ) → EndsAs (course_of s).ending turns all stop lost
  pub left : (left : Option (List WireEvent)) (rest : List WireEvent) → LeftIs ending lost left rest
      → LeftIs (course_of s).ending lost left rest ⊎ Rose wire.faults wire'.faults

-- what events did that were committed together: so many were handled, and the run goes on; or it ends with a status
abbrev pub TookOrEnded : Limits → Conf → Intake → Intake → Doing → WireTells → WireTells → ℕ → Result ℕ Status → Type 0
TookOrEnded limits conf old new did wire wire' most (Ok count) =
    Ran (refusing limits 0) conf old.entries old new did wire wire' count None None anywhere × (count ≤ most)
    × (0 < most → 0 < count)
TookOrEnded limits conf old new did wire wire' most (Err s) = Ends limits conf old new did wire wire' most s
