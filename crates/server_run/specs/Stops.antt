-- What a stop at any moment of a run leaves in its journal.
use Rattle.std.specs.Prelude.{◌≡◌, ◌⊎◌, ℕ, List, [], ◌∷◌, ◌++◌, None}
use Rattle.zbx_types.specs.declared.conf.Conf.{Conf}
use Rattle.zbx_types.specs.declared.entries.Numbered.{Numbered}
use Rattle.outside.specs.declared.event.WireEvent.{WireEvent}
use Rattle.intake_front.specs.Intake.{Limits, Intake}
use Rattle.intake_front.specs.Served.{served}

-- the limits where the disk refuses the group with this number, or none at 0
abbrev pub refusing : Limits → ℕ → Limits
refusing limits number = record { max_entries = limits.max_entries; max_bytes = limits.max_bytes; stop = number }

-- of these events none stopped but the last, if any, where the disk refuses no group
abbrev pub RunsOn : Limits → Conf → Intake → List WireEvent → Type 0
RunsOn limits conf begun events =
    (front : List WireEvent) (last : WireEvent) → events ≡ front ++ last ∷ []
    → (served (refusing limits 0) conf begun front).stop ≡ None

-- entries that a run came to: those that were kept at its opening; those behind some of the events that it handled,
-- none or all of them too; or those that all of these make where the disk refuses no group
abbrev pub IsReached : Limits → Conf → List Numbered → Intake → List WireEvent → List Numbered → Type 0
IsReached limits conf recovered begun handled entries =
    (entries ≡ recovered)
    ⊎ (((first : List WireEvent) × (rest : List WireEvent) × (handled ≡ first ++ rest)
    × (entries ≡ (served limits conf begun first).intake.entries))
    ⊎ (entries ≡ (served (refusing limits 0) conf begun handled).intake.entries))
