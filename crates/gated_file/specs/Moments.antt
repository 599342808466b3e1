-- A disk that was only read.
use Rattle.std.specs.Prelude.{◌≡◌}
use Rattle.outside.specs.Disk.{DiskTells, AddsNothing, LeavesOnly}

-- it reads as before, has no new images, and at each moment a crash left what it might have left before
pub record IsAsBefore (old new : DiskTells) : Type 0 where
  pub same : new.bytes ≡ old.bytes
  pub no_others : AddsNothing old new
  pub moments : LeavesOnly old new old.images
