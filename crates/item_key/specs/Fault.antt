-- Which fronts of a text are texts of a grammar.
use Rattle.std.specs.Prelude.{ℕ, List, ◌≤◌, ◌<◌, length, take}

-- no front longer than so many bytes is a text of the grammar
abbrev pub HasNoLonger : (List ℕ → Type 0) → List ℕ → ℕ → Type 0
HasNoLonger G text count = (n : ℕ) → count < n → n ≤ length text → G (take n text) → ⊥

-- no front is a text of the grammar
abbrev pub HasNone : (List ℕ → Type 0) → List ℕ → Type 0
HasNone G text = (n : ℕ) → n ≤ length text → G (take n text) → ⊥
