-- An event's groups, while they are staged behind those that wait, and while they are journaled.
use Rattle.std.specs.Prelude.{◌≡◌, ◌≢◌, ◌≤◌, ℕ, ◌+◌, List, [], ◌∷◌, ◌++◌, length, take, Option, Some, None, is_some, IfSome, Result, IfOk, OnErr, if◌then◌else◌}
use Rattle.zbx_types.specs.declared.base.Base.{Base}
use Rattle.zbx_types.specs.declared.entries.Entry.{Entry}
use Rattle.zbx_types.specs.declared.entries.Numbered.{Numbered}
use Rattle.zbx_types.specs.declared.memory.OutOfMemory.{OutOfMemory}
use Rattle.outside.specs.Causes.{Rose}
use Rattle.outside.specs.Disk.{DiskTells, LeavesOnly}
use Rattle.intake_journal.specs.Block.{opened_bytes, count_all, entries_with_all, bytes_with_all, passes_with_all}
use Rattle.intake_journal.specs.Settled.{Journaled}
use Rattle.intake_journal.specs.declared.state.State.TheVariants.{Broken}
use Rattle.intake_front.specs.Intake.{Intake, Handled, stopping}
use Rattle.intake_front.specs.Fronted.{KeepsEither, IsReady, refused_group, staged_with}
use Rattle.intake_front.specs.declared.answer.Answer.{Answer}
use Rattle.intake_front.specs.declared.answer.Reply.{Reply}
use Rattle.intake_front.specs.declared.answer.Stop.{Stop}
use Rattle.intake_front.specs.declared.answer.Stop.TheVariants as stop
use Rattle.intake_front.specs.declared.drafts.Draft.{Draft}
use Rattle.intake_front.specs.declared.settling.Settled.{Settled}
use Rattle.intake_front.specs.declared.staging.Staged.{Staged}
use Rattle.intake_front.specs.declared.staging.Staged.TheVariants.{Both, OnlyTick, Neither}

-- why a journal hasn't room for a group behind those of a block; no entries are no group
abbrev pub refused_by : {D : Type 0} → Journaled D → List (List Entry) → List Entry → Option Stop
refused_by journal block [] = None
refused_by journal block (e ∷ es) =
    let more = block ++ (e ∷ es) ∷ [] in
    if passes_with_all journal more then Some (stop.Full (entries_with_all journal more)
    (bytes_with_all journal more)) else None

-- how many groups these entries are: one, or none where there are none
abbrev pub groups_in : List Entry → ℕ
groups_in [] = 0
groups_in (e ∷ es) = 1

-- an intake stands behind a journal with the groups of a block
pub record FollowsBlock {D : Type 0} (journal : Journaled D) (block : List (List Entry)) (i : Intake) : Type 0 where
  pub count : journal.entries + count_all block ≡ length i.entries
  pub size_is : journal.at + length (opened_bytes block) + 1 ≡ i.bytes

-- what was staged of an event's Tick and its values behind the groups of a block, by what the journal has room for
abbrev pub IsStagedAs : {D : Type 0} → Journaled D → List (List Entry) → List Entry → List Entry → List (List Entry)
    → Staged → Type 0
IsStagedAs journal block ticks group after Both =
    (refused_by journal block ticks ≡ None) × (refused_by journal (staged_with block ticks) group ≡ None)
    × (after ≡ staged_with (staged_with block ticks) group)
IsStagedAs journal block ticks group after (OnlyTick full) =
    (refused_by journal block ticks ≡ None) × (refused_by journal (staged_with block ticks) group ≡ Some full)
    × (after ≡ staged_with block ticks)
IsStagedAs journal block ticks group after (Neither full) =
    (refused_by journal block ticks ≡ Some full) × (after ≡ block)

-- the answer where the disk refuses the first of an event's groups: behind a Tick the event isn't handled, and values
-- count as failed
abbrev pub fault_at : List Entry → List Entry → Option Reply → Option ℕ → Option Answer
fault_at [] [] failing shut = None
fault_at [] (g ∷ gs) failing shut =
    Some (record { reply = failing; shut = shut; added = []; stop = Some stop.DiskFault })
fault_at (t ∷ ts) group failing shut = Some (stopping stop.DiskFault)

-- what an event enters, of which these entries with their numbers were made, and what it is answered with
abbrev pub settled : Staged → List Entry → Draft → Option Stop → List Numbered → Settled
settled Both ticks made last added = record {
  ticks = ticks;
  group = made.group;
  now = record { reply = made.reply; shut = made.shut; added = added; stop = last };
  fault = fault_at ticks made.group made.failing made.shut;
}
settled (OnlyTick full) ticks made last added = record {
  ticks = ticks;
  group = [];
  now = record { reply = made.failing; shut = made.shut; added = take (length ticks) added; stop = Some full };
  fault = fault_at ticks [] None None;
}
settled (Neither full) ticks made last added = record { ticks = []; group = []; now = stopping full; fault = None }

-- what was written, or not, changes what a crash leaves behind a base only from these entries to those, at each moment
pub record IsWritten (old new : DiskTells) (base : Base) (before after : List Numbered) : Type 0 where
  pub later : old.faults ≤ new.faults
  pub told : is_some new.bytes ≡ is_some old.bytes
  pub any_moment : IfSome old.bytes (λ _. LeavesOnly old new (KeepsEither base before after))

-- an event was answered, and left what this says where the disk refuses the group with a number, or none
pub record IsOffered {D : Type 0} (tells : D → DiskTells) (old new : Journaled D) (i j : Intake)
    (says : ℕ → Handled) (result : Result Answer OutOfMemory) : Type 0 where
  pub answer : IfOk result (λ a. a ≡ (says (refused_group i a.stop)).answer)
  pub after : IfOk result (λ a. j ≡ (says (refused_group i a.stop)).intake)
  pub err : OnErr result ((j.entries ≡ i.entries) × (new ≡ old))
  pub fault : IfOk result (λ a. a.stop ≡ Some stop.DiskFault → (new.state ≡ Broken)
      × Rose (tells old.disk).faults (tells new.disk).faults)
  pub ready : IfOk result (λ a. a.stop ≢ Some stop.DiskFault → IsReady old new)
  pub base : new.base ≡ old.base
  pub written : IsWritten (tells old.disk) (tells new.disk) old.base i.entries (says 0).intake.entries
