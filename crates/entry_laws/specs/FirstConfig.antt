-- The first Config of a log.
use Rattle.std.specs.Prelude.{◌≡◌, ℕ, List, [], ◌∷◌}
use Rattle.zbx_types.specs.declared.conf.Conf.{Conf}
use Rattle.zbx_types.specs.declared.entries.Entry.TheVariants.{Config}
use Rattle.entry_step.specs.Behind.{behind}
use Rattle.entry_step.specs.Carry.{next_start}
use Rattle.entry_step.specs.Start.{first_start}

-- Over nothing a Config leaves the start that stands behind it as the first entry of a log of one configuration.
abbrev pub FirstConfig : Type 0
FirstConfig = (conf : Conf) (number now : ℕ) (text : List ℕ)
    → next_start (first_start conf) [] conf number now [] ≡ behind (first_start conf) (record { number = number; entry = Config now text } ∷ [])
