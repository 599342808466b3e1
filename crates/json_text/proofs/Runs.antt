-- Runs of the machine in parts.
use Rattle.std.proofs.Common.{◌≡◌, ℕ, List, [], ◌∷◌, ◌++◌, ap, ◌∙◌, Option, Some}
use Rattle.byte_grammar.specs.Runs.{run}
use Rattle.byte_grammar.proofs.Runs.{one_on, run_end, joined as joined_runs}
use Rattle.json_text.specs.Machine.{state, step, move, after}
use Rattle.json_text.specs.declared.frame.Frame.{Frame}
use Rattle.json_text.specs.declared.place.Mode.{Mode}
use Rattle.json_text.specs.declared.machine.State.{State}

-- a run in two parts
pub joined : (s t : Option State) (a b : List ℕ) → after s a ≡ t → after s (a ++ b) ≡ after t b
joined s t a b e = joined_runs step s t a b e

-- a run by its first step
pub stepped : (m : Mode) (k : List Frame) (b : ℕ) (bs : List ℕ) (t : Option State) → move m k b ≡ t → after (Some (state m k)) (b ∷ bs) ≡ after t bs
stepped m k b bs t e = one_on step (state m k) b bs ∙ ap (λ (o : Option State). run step o bs) e

pub no_step : (s : Option State) → after s [] ≡ s
no_step s = run_end step s
