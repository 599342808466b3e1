-- Each text is a path or isn't.
use Rattle.std.proofs.Common.{◌≡◌, ◌⊎◌, inl, inr, ℕ, List, Option, Some, None, refl}
use Rattle.json_path.specs.declared.path.Path.{Path}
use Rattle.json_path.specs.declared.places.State.{State}
use Rattle.json_path.specs.Grammar.{IsPathText}
use Rattle.json_path.specs.Machine.{step, ends, start}
use Rattle.byte_grammar.specs.Runs.{run}
use Rattle.json_path.proofs.PathRuns.{ends_at, taken}
use Rattle.byte_grammar.specs.Fault.{IsViable}
use Rattle.json_path.proofs.Reaching.{sound, viable, not_viable}

ended : (text : List ℕ) (s : State) (path : Option Path) → run step (Some start) text ≡ Some s → ends s ≡ path → IsPathText text ⊎ (IsPathText text → ⊥)
ended text s (Some path) h e = inl (path, sound text s path h e)
ended text s None h e = inr (λ t.
    let a = taken t.1 in
    let b : ends_at (run step (Some start) text) ≡ None = rw h e in
    cc)

decided : (text : List ℕ) (state : Option State) → run step (Some start) text ≡ state → IsPathText text ⊎ (IsPathText text → ⊥)
decided text (Some s) h = ended text s (ends s) h refl
decided text None h = inr (λ t.
    let a = taken t.1 in
    let b : ends_at (run step (Some start) text) ≡ None = rw h refl in
    cc)

pub is_path_or_not : (text : List ℕ) → IsPathText text ⊎ (IsPathText text → ⊥)
is_path_or_not text = decided text (run step (Some start) text) refl

begun : (front : List ℕ) (state : Option State) → run step (Some start) front ≡ state → IsViable IsPathText front ⊎ (IsViable IsPathText front → ⊥)
begun front (Some s) h = inl (viable front s h)
begun front None h = inr (not_viable front h)

-- and some path begins with it or none does
pub begins_path_or_not : (front : List ℕ) → IsViable IsPathText front ⊎ (IsViable IsPathText front → ⊥)
begins_path_or_not front = begun front (run step (Some start) front) refl
