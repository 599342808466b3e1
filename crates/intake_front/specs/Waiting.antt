-- What waits for a commit, and what an event that is taken adds to it.
use Rattle.std.specs.Prelude.{◌≡◌, ◌≢◌, ◌≤◌, ◌<◌, ℕ, ◌+◌, Bool, List, [], ◌∷◌, ◌++◌, length, take, Option, Some, None, is_some}
use Rattle.std.specs.List.{list_any}
use Rattle.zbx_types.specs.declared.entries.Entry.{Entry}
use Rattle.entry_step.specs.Log.{tick_of}
use Rattle.outside.specs.Disk.{DiskTells}
use Rattle.intake_journal.specs.Based.{most_counted}
use Rattle.intake_journal.specs.Block.{opened_bytes}
use Rattle.intake_journal.specs.Settled.{Journaled}
use Rattle.intake_journal.specs.declared.state.State.TheVariants.{Ready}
use Rattle.intake_front.specs.Intake.{Intake, Handled, with_group}
use Rattle.intake_front.specs.Fronted.{Fronted, HasJournaled, HasRoom, all_of}
use Rattle.intake_front.specs.declared.answer.Answer.{Answer}
use Rattle.intake_front.specs.declared.answer.Stop.{Stop}
use Rattle.intake_front.specs.declared.answer.Stop.TheVariants as stop
use Rattle.intake_front.specs.declared.batch.Batch.{Batch}
use Rattle.intake_front.specs.declared.batch.First.{First}
use Rattle.intake_front.specs.declared.batch.Mark.{Mark}

-- what events are answered with where the disk refuses the first group that waits
abbrev pub failing_of : List Answer → Option First → List Answer
failing_of answers None = answers
failing_of answers (Some first) = take first.at answers ++ first.answer ∷ []

-- where an intake stands
abbrev pub mark_of : Intake → Mark
mark_of i = record { kept = length i.entries; tick = i.tick; bytes = i.bytes; groups = i.groups }

-- an intake with the entries, the Tick, the bytes and the groups of a mark; its moment and its connections stay
abbrev pub back_to : Intake → Mark → Intake
back_to i mark =
    record i { tick = mark.tick; entries = take mark.kept i.entries; bytes = mark.bytes; groups = mark.groups }

-- a Tick is among entries
abbrev pub has_tick : List Entry → Bool
has_tick group = list_any (λ entry. is_some (tick_of entry)) group

-- no group waits, or the event of the first one that does is among those that were answered
abbrev pub HasFirst : Intake → Mark → List (List Entry) → List Answer → Option First → Type 0
HasFirst i mark block answers None = (block ≡ []) × (mark.tick ≡ i.tick) × (mark.groups ≡ i.groups)
HasFirst i mark block answers (Some first) = (0 < length block) × (first.at < length answers)

-- what waits behind an intake's mark
pub record IsBatch (i : Intake) (b : Batch) : Type 0 where
  pub counted : i.before ≤ most_counted
  pub entries_are : i.entries ≡ with_group i.before (take b.mark.kept i.entries) (all_of b.block)
  pub size_is : i.bytes ≡ b.mark.bytes + length (opened_bytes b.block)
  pub few : b.mark.groups ≤ b.mark.kept
  pub within : b.mark.kept ≤ length i.entries
  pub first_is : HasFirst i b.mark b.block b.answers.items b.first
  pub ticked : b.is_ticked ≡ has_tick (all_of b.block)

-- the entries are numbered behind the journal's base, the groups that wait fit into the journal, and unless its disk
-- failed it keeps what stands before them
pub record IsWaiting {D : Type 0} (tells : D → DiskTells) (journal : Journaled D) (i : Intake) (b : Batch) : Type 0 where
  pub batch : IsBatch i b
  pub number : i.before ≡ journal.base.number
  pub room : HasRoom journal b.block
  pub journaled : journal.state ≡ Ready → HasJournaled tells journal (take b.mark.kept i.entries) b.mark.bytes

-- what contracts see of a journal, an intake and what waits
abbrev pub front_of : {D : Type 0} → Journaled D → Intake → Batch → Fronted D
front_of journal i b = record {
  journal = journal;
  intake = i;
  kept = take b.mark.kept i.entries;
  block = b.block;
  answers = b.answers.items;
  failing = failing_of b.answers.items b.first;
}

-- the event of the first group that waits, with one more answer; the disk would refuse that group with this one
abbrev pub first_with : Option First → ℕ → Option Answer → Option First
first_with (Some first) at fault = Some first
first_with None at None = None
first_with None at (Some answer) = Some (record { at = at; answer = answer })

-- which event has the first group that waits once one more was taken, of which this says what it does where the disk
-- refuses the group with a number
abbrev pub FirstBy : Intake → List Answer → (ℕ → Handled) → Option First → Option First → Type 0
FirstBy i answers says (Some before) after = after ≡ Some before
FirstBy i answers says None None = (says (i.groups + 1) ≡ says 0) × ((says 0).intake.groups ≡ i.groups)
FirstBy i answers says None (Some first) =
    (first.at ≡ length answers) × (says (i.groups + 1) ≡ record
    { intake = record i { now = (says 0).intake.now; peers = (says 0).intake.peers }; answer = first.answer })
    × (first.answer.stop ≡ Some stop.DiskFault)

-- an event was taken
pub record IsTaken (i j : Intake) (b c : Batch) (says : ℕ → Handled) (s : Option Stop) : Type 0 where
  pub after : j ≡ (says 0).intake
  pub number : j.before ≡ i.before
  pub answers : c.answers.items ≡ b.answers.items ++ (says 0).answer ∷ []
  pub stops : s ≡ (says 0).answer.stop
  pub no_fault : (says 0).answer.stop ≢ Some stop.DiskFault
  pub first : FirstBy i b.answers.items says b.first c.first
  pub mark : c.mark ≡ b.mark
  pub batch : IsBatch j c

-- no memory was to be had for an event
pub record IsLeft (i j : Intake) (b c : Batch) : Type 0 where
  pub entries : j.entries ≡ i.entries
  pub number : j.before ≡ i.before
  pub block : c.block ≡ b.block
  pub answers : c.answers.items ≡ b.answers.items
  pub first : c.first ≡ b.first
  pub mark : c.mark ≡ b.mark
  pub batch : IsBatch j c
