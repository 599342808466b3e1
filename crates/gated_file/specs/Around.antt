-- What a crash may leave while a block is put behind a gate.
use Rattle.std.specs.Prelude.{◌≡◌, ◌⊎◌, ℕ, ◌+◌, List, ◌∷◌, ◌++◌, take}

-- the bytes up to and with the gate are as before, or the block stands whole behind them and any gate
abbrev pub IsAround : List ℕ → ℕ → List ℕ → List ℕ → Type 0
IsAround bytes gate block c =
    ((rest : List ℕ) × (c ≡ take (gate + 1) bytes ++ rest))
    ⊎ ((byte : ℕ) × (rest : List ℕ) × (c ≡ take gate bytes ++ byte ∷ (block ++ rest)))
