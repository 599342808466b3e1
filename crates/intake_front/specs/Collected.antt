-- What is remembered of the maintenances.
use Rattle.std.specs.Prelude.{◌≡◌, false, Option, Some, None}
use Rattle.zbx_types.specs.declared.conf.Conf.{Conf}
use Rattle.intake_front.specs.Taking.{AllCollected}
use Rattle.intake_front.specs.declared.collection.Found.{Found}

-- what was found at a moment holds: where no maintenance keeps values out, those of all hosts are taken
abbrev pub HasFound : Conf → Option Found → Type 0
HasFound conf None = Unit {0}
HasFound conf (Some found) = found.some_out ≡ false → AllCollected conf found.at
