-- Why a journal isn't read for a call that adds nothing to it.
use Rattle.std.specs.Prelude.{◌⊎◌, List, ℕ}
use Rattle.outside.specs.Disk.{DiskTells}
use Rattle.pattern_set.specs.Patterns.{IsNoPattern}
use Rattle.server_words.specs.declared.status.Status.{Status}
use Rattle.server_words.specs.declared.status.Status.TheVariants as status
use Rattle.journal_opening.specs.Opening.{KeptText}
use Rattle.journal_opening.specs.Patterns.{HasFlawAt, HoldsBrace}
use Rattle.journal_opening.specs.Reasons.{Rejects}
use Rattle.journal_opening.specs.Recovered.{IsUnread}

-- what the disk's file keeps couldn't be read, or isn't that of a run
abbrev pub IsUnaccepted : DiskTells → DiskTells → Status → Type 0
IsUnaccepted old new s = IsUnread old.bytes old.faults new.faults s ⊎ Rejects old.bytes s

-- the text of a configuration has the flaw that a status names
abbrev pub IsFlawed : Status → List ℕ → Type 0
IsFlawed (status.PatternRefused path) = HasFlawAt IsNoPattern path
IsFlawed (status.PatternTooLarge path) = HasFlawAt HoldsBrace path
IsFlawed _ = λ text. ⊥

-- or it is, and the text of its base or of one of its Configs has a pattern that a run can't take
abbrev pub IsUnkept : DiskTells → DiskTells → Status → Type 0
IsUnkept old new s = IsUnaccepted old new s ⊎ KeptText old.bytes (IsFlawed s)
