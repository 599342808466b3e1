-- A text goes on exactly as far as the machine does.
use Rattle.std.proofs.Common.{◌<◌, length, get_or, ◌≡◌, ℕ, List, ◌++◌, refl, ap, sym, ◌∙◌, Option, Some, None}
use Rattle.json_path.specs.declared.path.Path.{Path}
use Rattle.json_path.specs.declared.places.State.{State}
use Rattle.json_path.specs.Grammar.{IsPath, IsPathText}
use Rattle.byte_grammar.specs.Fault.{IsViable}
use Rattle.json_path.specs.Machine.{step, ends, start}
use Rattle.byte_grammar.specs.Runs.{run}
use Rattle.byte_grammar.proofs.Runs.{run_none, joined}
use Rattle.byte_grammar.proofs.Faults.{Reached, Tells, stopped_whole, whole_text}
use Rattle.json_path.proofs.PathRuns.{ends_at, taken, one_path}
use Rattle.json_path.proofs.PathPasts.{past_of, path_past}
use Rattle.json_path.proofs.Endings.{path_done}

-- a text that ends in a state is its path
pub sound : (text : List ℕ) (s : State) (path : Path) → run step (Some start) text ≡ Some s → ends s ≡ Some path → IsPath text path
sound text s path h e = path_past s.done s.place text path (past_of text s h) e

pub viable : (front : List ℕ) (s : State) → run step (Some start) front ≡ Some s → IsViable IsPathText front
viable front s h =
    let l = path_done s.done s.place front (past_of front s h) in
    (l.more, (l.fact.0, sound (front ++ l.more) l.state l.fact.0 (joined step (Some start) (Some s) front l.more h ∙ l.is) l.fact.1))

pub not_viable : (front : List ℕ) → run step (Some start) front ≡ None → IsViable IsPathText front → ⊥
not_viable front h v =
    let a = taken v.1.1 in
    let b = ap (λ (o : Option State). ends_at o) (joined step (Some start) None front v.0 h ∙ run_none step v.0) in
    cc

-- the machine lives exactly where a path goes on
pub tells : Tells step start (IsViable IsPathText)
tells = record { lives = viable; stops = not_viable }

pub none_stop : (text : List ℕ) (i : ℕ) (s : State) → i < length text → Reached step start text i s → None ≡ step s (get_or text i 0) → IsPathText text → ⊥
none_stop text i s h r e t =
    let a = taken t.1 in
    let b : ends_at (run step (Some start) text) ≡ None = rw (stopped_whole step start text i s h r e) refl in
    cc

pub none_end : (text : List ℕ) (i : ℕ) (s : State) → i ≡ length text → Reached step start text i s → None ≡ ends s → IsPathText text → ⊥
none_end text i s e r h t =
    let a = taken t.1 in
    let b : ends_at (run step (Some start) text) ≡ None = rw (whole_text step start text i s e r) (sym h) in
    cc

pub found_end : (text : List ℕ) (i : ℕ) (s : State) (path : Path) → i ≡ length text → Reached step start text i s → Some path ≡ ends s → IsPath text path
found_end text i s path e r h = sound text s path (whole_text step start text i s e r) (sym h)

pub only_end : (text : List ℕ) (path : Path) → IsPath text path → (other : Path) → IsPath text other → other ≡ path
only_end text path h other k = one_path text other path k h
