-- Runs of a machine over bytes. A machine is what a byte makes of each of its states; without an answer it stops.
use Rattle.std.specs.Prelude.{ℕ, List, [], ◌∷◌, Option, Some, None}

-- one byte more, where the machine hasn't stopped
abbrev pub move : {S : Type 0} → (S → ℕ → Option S) → Option S → ℕ → Option S
move step None b = None
move step (Some s) b = step s b

-- the bytes one by one
unfoldable pub run : {S : Type 0} → (S → ℕ → Option S) → Option S → List ℕ → Option S
run step s [] = s
run step s (b ∷ bs) = run step (move step s b) bs
