-- What a crash leaves of a run's journal, up to a stop.
use Rattle.std.specs.Prelude.{◌≡◌, ◌⊎◌, ◌≤◌, ℕ, List, Option, Some, IfSome, is_some}
use Rattle.zbx_types.specs.declared.base.Base.{Base}
use Rattle.zbx_types.specs.declared.entries.Numbered.{Numbered}
use Rattle.outside.specs.Causes.{Rose}
use Rattle.outside.specs.Disk.{DiskTells, LeavesOnly}
use Rattle.intake_front.specs.Fronted.{Keeps, IsKept}
use Rattle.intake_front.specs.declared.answer.Stop.{Stop}
use Rattle.intake_front.specs.declared.answer.Stop.TheVariants as stop

-- the bytes keep a base, and entries of these behind it
abbrev pub KeepsSome : Base → (List Numbered → Type 0) → List ℕ → Type 0
KeepsSome base among c = (entries : List Numbered) × among entries × Keeps base entries c

-- What the disk of a run's journal did since then, up to a stop, if any: a crash at any moment left its base with entries
-- of these, or what else it might; where it stopped by a fault of the disk the count of that rose; else its file keeps
-- these entries and each crash leaves them. What a crash leaves is said where the disk tells.
pub record Journals (also : List ℕ → Type 0) (old new : DiskTells) (base : Base) (among : List Numbered → Type 0)
    (reason : Option Stop) (entries : List Numbered) : Type 0 where
  pub left : IfSome old.bytes (λ _. LeavesOnly old new (λ c. also c ⊎ KeepsSome base among c))
  pub fault : reason ≡ Some stop.DiskFault → Rose old.faults new.faults
  pub kept : (reason ≡ Some stop.DiskFault → ⊥) → IsKept new base entries
  pub later : old.faults ≤ new.faults
  pub told : is_some new.bytes ≡ is_some old.bytes

-- the entries before an event, or those behind it
abbrev pub IsEither : List Numbered → List Numbered → List Numbered → Type 0
IsEither before after entries = (entries ≡ before) ⊎ (entries ≡ after)
