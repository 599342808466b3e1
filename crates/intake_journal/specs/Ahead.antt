-- Bytes that were read ahead.
use Rattle.std.specs.Prelude.{◌≡◌, ℕ, ◌-◌, List, length, take, drop, Option, IfSome}
use Rattle.intake_journal.specs.declared.ahead.Ahead.{Ahead}
use Rattle.intake_journal.specs.declared.state.State.{State}
use Rattle.intake_journal.specs.declared.state.State.TheVariants.{Reading}

-- they are the file's bytes from their place on
abbrev pub IsAhead : Ahead → Option (List ℕ) → Type 0
IsAhead ahead file = IfSome file (λ b. ahead.bytes ≡ take (length ahead.bytes) (drop ahead.at b))

-- so many of them from a place on
abbrev pub part_of : Ahead → ℕ → ℕ → List ℕ
part_of ahead at size = take size (drop (at - ahead.at) ahead.bytes)

-- while a journal is read
abbrev pub IsReadAhead : State → Ahead → Option (List ℕ) → Type 0
IsReadAhead state ahead file = state ≡ Reading → IsAhead ahead file
