-- What contracts see of sources, sinks and disks over readers, writers and files.
use Rattle.std.specs.Prelude.{◌≡◌, ◌≤◌, ◌<◌, ℕ, ◌+◌, ◌-◌, ◌^◌, min, Bool, true, ◌==◌, is_some, List, length, take, drop, Option, IfSome, Some, None, Result, Ok, Err, IsErr, if◌then◌else◌}
use Rattle.outside.specs.Others.{first_other}
use Rattle.wire_mio.specs.declared.reread.Compared.{Compared}
use Rattle.wire_mio.specs.declared.reread.Compared.TheVariants.{Unread, Same, Other}

-- a source: the bytes that are left, where its reader tells, and how often it has failed
pub record Reading : Type 0 where
  pub left : Option (List ℕ)
  pub faults : ℕ

-- a sink: whether it has a writer, whether that is this program's alone, the bytes that it holds, where its writer tells,
-- how many there are, and how often it has failed
pub record Holding : Type 0 where
  pub has_writer : Bool
  pub is_alone : Bool
  pub bytes : Option (List ℕ)
  pub held : ℕ
  pub faults : ℕ

-- the bytes that a writer tells, where there are as many as were counted
abbrev pub counted : ℕ → Option (List ℕ) → Option (List ℕ)
counted held None = None
counted held (Some bytes) = if length bytes == held then Some bytes else None

-- a file of a sink: whether its bytes stay, as those of a pipe don't, and whether its lock was taken
pub record Added : Type 0 where
  pub stays : Bool
  pub has_lock : Bool

-- no other program adds to such a file, where its bytes stay
abbrev pub is_own : Added → Bool
is_own file = if file.stays then file.has_lock else true

-- a sink that was opened: it has no writer, or one that is this program's alone
abbrev pub IsOwn : Holding → Type 0
IsOwn sink = sink.has_writer ≡ true → sink.is_alone ≡ true

-- a file of a disk: how many calls have failed, and whether it is this program's alone
pub record Locked : Type 0 where
  pub failed : ℕ
  pub has_lock : Bool

-- a disk: how many calls of its file have failed, where it has one, whether that is this program's alone, and how often it
-- has failed itself
pub record Filed : Type 0 where
  pub failed : Option ℕ
  pub has_lock : Bool
  pub faults : ℕ

-- a disk that was opened: it has no file, or one that is this program's alone
abbrev pub IsAlone : Filed → Type 0
IsAlone disk = is_some disk.failed ≡ true → disk.has_lock ≡ true

-- a failed call is counted, and no other
abbrev pub CountsFailed : {T E : Type 0} → ℕ → ℕ → Result T E → Type 0
CountsFailed before now (Ok answer) = now ≡ before
CountsFailed before now (Err cause) = now ≡ before + 1

-- a call fails where that of the file did, or where there is no file, and nowhere else
abbrev pub FailsAsFile : {T E : Type 0} → Option ℕ → Option ℕ → Result T E → Type 0
FailsAsFile None now result = IsErr result × (now ≡ None)
FailsAsFile (Some before) now (Ok answer) = now ≡ Some before
FailsAsFile (Some before) now (Err cause) = now ≡ Some (before + 1)

-- a count that rises by one stays at its last value
abbrev pub risen : ℕ → ℕ
risen count = min (count + 1) (2 ^ 64 - 1)

-- a count of faults behind an answer
abbrev pub faults_behind : {T E : Type 0} → ℕ → Result T E → ℕ
faults_behind faults (Ok answer) = faults
faults_behind faults (Err cause) = risen faults

-- what one read shows of bytes that are looked for from a place on: nothing, where the writer doesn't tell; how many of
-- the first ones are there; or where there is another first
abbrev pub IsCompared : Option (List ℕ) → ℕ → List ℕ → Compared → Type 0
IsCompared contents at bytes Unread = contents ≡ None
IsCompared contents at bytes (Same n) = (0 < n) × (n ≤ length bytes) × IfSome contents (λ b. first_other at (take n bytes) (take n (drop at b)) ≡ None)
IsCompared contents at bytes (Other place) =
    (at ≤ place) × (place < at + length bytes) × IfSome contents (λ b. first_other at bytes (drop at b) ≡ Some place)
