-- The configurations of a run, each made ready: those that its journal kept, and its own.
use Rattle.std.specs.Prelude.{ℕ, ◌-◌, Bool, false, List, length, take, Contains, slice_get, Option, Some, None, ⊤, if◌then◌else◌}
use Rattle.std.specs.Str.{bytes_eq}
use Rattle.zbx_types.specs.declared.conf.Conf.{Conf}
use Rattle.server_words.specs.declared.status.Status.{Status}
use Rattle.server_words.specs.declared.status.Status.TheVariants as status
use Rattle.journal_opening.specs.Patterns.{IsUnready}

-- there is a configuration, and it has this text
abbrev pub has_text : List ℕ → Option Conf → Bool
has_text text None = false
has_text text (Some conf) = bytes_eq conf.text text

-- configurations without the last one, where that has this text
abbrev pub earlier : List ℕ → List Conf → List Conf
earlier text confs =
    if has_text text (slice_get confs (length confs - 1)) then take (length confs - 1) confs else confs

-- why configurations weren't made ready: memory was refused, or one of them has a pattern that isn't one, or is too large
abbrev pub AreUnready : List Conf → Status → Type 0
AreUnready confs status.OutOfMemory = ⊤
AreUnready confs s = (conf : Conf) × Contains confs conf × IsUnready conf s
