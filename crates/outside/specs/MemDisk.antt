-- What contracts see of the disks in memory.
use Rattle.std.specs.Prelude.{◌≡◌, ℕ, ◌-◌, ◌≤◌, List, [], ◌∷◌, length, drop, Some}
use Rattle.outside.specs.Calls.{Calls}
use Rattle.outside.specs.Disk.{DiskTells, overwritten, Torn}
use Rattle.outside.specs.declared.mem_disk.Call.{Call}
use Rattle.outside.specs.declared.mem_disk.Call.TheVariants.{Wrote, Synced}

-- a disk that keeps its calls: what it held at first, its writes and syncs, the newest first, how often it has failed,
-- all its calls, and how many memory refused
pub record Recorded : Type 0 where
  pub first : List ℕ
  pub past : List Call
  pub faults : ℕ
  pub calls : Calls
  pub refused : ℕ

-- a disk that keeps its bytes alone: these, how often it has failed, and how many calls memory refused
pub record Bare : Type 0 where
  pub bytes : List ℕ
  pub faults : ℕ
  pub refused : ℕ

-- what it held and its writes and syncs are as before
pub record KeepsPast (old new : Recorded) : Type 0 where
  pub first : new.first ≡ old.first
  pub past : new.past ≡ old.past
  pub refused : new.refused ≡ old.refused

-- the bytes that a read gives after these calls
abbrev pub seen : List ℕ → List Call → List ℕ
seen first [] = first
seen first (Wrote at bytes ∷ earlier) = overwritten (seen first earlier) at bytes
seen first (Synced ∷ earlier) = seen first earlier

-- what a crash after these calls may leave
abbrev pub IsImage : List ℕ → List Call → List ℕ → Type 0
IsImage first [] c = c ≡ first
IsImage first (Wrote at bytes ∷ earlier) c = (d : List ℕ) × IsImage first earlier d × Torn at (length bytes) d c
IsImage first (Synced ∷ earlier) c = c ≡ seen first earlier

-- what a crash may leave after the oldest calls, at least so many of them
abbrev pub IsImageSince : List ℕ → List Call → ℕ → List ℕ → Type 0
IsImageSince first past t c = (k : ℕ) × (t ≤ k) × (k ≤ length past) × IsImage first (drop (length past - k) past) c

-- it tells all of that
abbrev pub told : Recorded → DiskTells
told m = record { bytes = Some (seen m.first m.past); images = IsImage m.first m.past; moment = length m.past; images_since = IsImageSince m.first m.past; faults = m.faults }
