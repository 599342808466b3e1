-- What a disk tells, what its calls do to that, and what a crash may leave.
use Rattle.std.specs.Prelude.{◌≡◌, ◌⊎◌, ℕ, ◌+◌, ◌-◌, ◌≤◌, min, max, List, ◌++◌, length, take, drop, replicate, Option, None, IfSome}

-- a disk: the bytes that a read gives, where it tells them, what a crash may leave, and how often it has failed
pub record DiskTells : Type 1 where
  pub bytes : Option (List ℕ)
  -- what a crash at this moment may leave
  pub images : List ℕ → Type 0
  -- the moment, as a number that doesn't fall
  pub moment : ℕ
  -- what a crash at some moment from that one on may have left
  pub images_since : ℕ → List ℕ → Type 0
  pub faults : ℕ

-- what holds of each disk: what a read gives is an image, and the moments since this one are this one alone
pub record IsLawful (disk : DiskTells) : Type 0 where
  pub reads_as : IfSome disk.bytes disk.images
  pub counts_now : (t : ℕ) (c : List ℕ) → t ≤ disk.moment → disk.images c → disk.images_since t c
  pub only_now : (c : List ℕ) → disk.images_since disk.moment c → disk.images c

-- a disk that tells nothing but how often it has failed has no images
abbrev pub silent : ℕ → DiskTells
silent faults = record { bytes = None; images = λ _. ⊥; moment = 0; images_since = λ _ _. ⊥; faults = faults }

pub silent_lawful : (faults : ℕ) → IsLawful (silent faults)
silent_lawful faults = record { reads_as = tt; counts_now = λ t c le image. image; only_now = λ c image. image }

-- bytes with these at a place; what lacks up to the place is zeros
unfoldable pub overwritten : List ℕ → ℕ → List ℕ → List ℕ
overwritten old at bytes = take at (old ++ replicate (at - length old) 0) ++ bytes ++ drop (at + length bytes) old

-- after a write of n bytes that a crash cuts short: any bytes in its range and past the old end, the same elsewhere
pub record Torn (at n : ℕ) (old new : List ℕ) : Type 0 where
  pub before : take (min at (length old)) new ≡ take (min at (length old)) old
  pub after : drop (at + n) new ≡ drop (at + n) old
  pub no_shorter : length old ≤ length new
  pub no_longer : length new ≤ max (length old) (at + n)

-- what a crash may leave now is what it might have left before, after a step
abbrev pub Follows : (List ℕ → List ℕ → Type 0) → DiskTells → DiskTells → Type 0
Follows step old new = (c : List ℕ) → new.images c → (d : List ℕ) × old.images d × step d c

-- a crash leaves nothing that it might not have left before
abbrev pub AddsNothing : DiskTells → DiskTells → Type 0
AddsNothing old new = (c : List ℕ) → new.images c → old.images c

-- a crash leaves these bytes and nothing else
abbrev pub Only : List ℕ → DiskTells → Type 0
Only bytes disk = (c : List ℕ) → disk.images c → c ≡ bytes

-- time goes on: a crash since t might have left what it might have left before, or what it may leave now
pub record Elapses (old new : DiskTells) : Type 0 where
  pub later : old.moment ≤ new.moment
  pub nothing_else : (t : ℕ) (c : List ℕ) → t ≤ old.moment → new.images_since t c → old.images_since t c ⊎ new.images c
  pub keeps : (t : ℕ) (c : List ℕ) → t ≤ old.moment → old.images_since t c → new.images_since t c

-- a crash at any moment since the old disk leaves bytes that have P
pub record LeavesOnly (old new : DiskTells) (P : List ℕ → Type 0) : Type 0 where
  pub later : old.moment ≤ new.moment
  pub each : (c : List ℕ) → new.images_since old.moment c → P c
  -- for a run that began earlier
  pub before : (t : ℕ) (c : List ℕ) → t ≤ old.moment → new.images_since t c → old.images_since t c ⊎ P c
