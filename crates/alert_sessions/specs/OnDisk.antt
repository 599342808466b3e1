-- What a call leaves on the disk of its marks, at every moment.
use Rattle.std.specs.Prelude.{◌≡◌, ◌≢◌, ◌⊎◌, ◌≤◌, ℕ, Bool, false, List, [], ◌++◌, length, take, Option, None, Some, is_some, IfSome}
use Rattle.outside.specs.Causes.{Rose}
use Rattle.outside.specs.Disk.{DiskTells, LeavesOnly}
use Rattle.alert_queue.specs.declared.types.NoteMark.{NoteMark}
use Rattle.alert_queue.specs.Queues.{Queued}
use Rattle.alert_marks.specs.Marks.{Marked, marks_in}
use Rattle.alert_marks.specs.declared.types.AddError.{AddError}
use Rattle.alert_marks.specs.declared.types.AddError.TheVariants as error

-- a file keeps some of these marks from the front, at least so many
abbrev pub KeepsFront : ℕ → List NoteMark → List ℕ → Type 0
KeepsFront least marks c = (n : ℕ) × (least ≤ n) × (marks_in c ≡ Some (take n marks))

-- each crash now leaves these marks, or these and those
abbrev pub EachKeepsOr : DiskTells → List NoteMark → List NoteMark → Type 0
EachKeepsOr disk marks more = IfSome disk.bytes (λ _. (c : List ℕ) → disk.images c → (marks_in c ≡ Some marks) ⊎ (marks_in c ≡ Some (marks ++ more)))

-- each crash since the call began left marks from the front of these, at least so many
abbrev pub EachKept : DiskTells → DiskTells → ℕ → List NoteMark → Type 0
EachKept opening disk least marks = IfSome opening.bytes (λ _. LeavesOnly opening disk (KeepsFront least marks))

-- What a call has left on its disk, where it began with so many marks, and was stopped or not. A mark that the disk failed
-- to keep may be there or not.
pub record IsOnDisk (opening disk : DiskTells) (least : ℕ) (list : List NoteMark) (broken : Bool) (stopped : Option AddError) : Type 0 where
  pub refused : List NoteMark
  pub one : length refused ≤ 1
  pub none : stopped ≢ Some error.DiskFault → refused ≡ []
  pub going : stopped ≡ None → broken ≡ false
  pub fault : stopped ≡ Some error.DiskFault → Rose opening.faults disk.faults
  pub later : opening.faults ≤ disk.faults
  pub told : is_some disk.bytes ≡ is_some opening.bytes
  pub keeps : EachKeepsOr disk list refused
  pub moments : EachKept opening disk least (list ++ refused)
  pub count : least ≤ length list

-- what contracts see of what lies under the lock
pub record Stated (D : Type 0) : Type 0 where
  pub queue : Queued
  pub marks : Marked D
  pub failures : ℕ
  pub successes : ℕ
  pub stopped : Option AddError
