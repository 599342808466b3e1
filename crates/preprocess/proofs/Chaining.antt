-- Memories of steps that a value doesn't reach.
use Rattle.std.proofs.Common.{◌≡◌, ◌<◌, ◌+◌, ◌-◌, ℕ, List, [], ◌∷◌, ◌++◌, length, drop, slice_index_or, ap, sym, ◌∙◌, arith, append_assoc}
use Rattle.std.proofs.lemmas.List.{drop_more}
use Rattle.zbx_types.specs.declared.steps.StepSpec.{StepSpec}
use Rattle.prep_steps.specs.Outcomes.{unmarked}
use Rattle.prep_steps.specs.declared.memory.StepMemory.{StepMemory}
use Rattle.preprocess.specs.Chain.{unreached}
use Rattle.preprocess.specs.Ways.{memory_at}
use Rattle.preprocess.proofs.Rows.{there}

-- one memory more
pub unreached_on : (steps : List StepSpec) (memories before marks after : List StepMemory) (i : ℕ) (one : StepMemory) → i < length steps
    → one ≡ slice_index_or memories i unmarked → after ≡ marks ++ one ∷ []
    → marks ++ unreached (drop i steps) (i + 1) (memory_at memories) ≡ before
    → after ++ unreached (drop (i + 1) steps) (i + 1 + 1) (memory_at memories) ≡ before
unreached_on steps memories before marks after i one l is made was =
    let t = there steps i l in
    let m : i + 1 - 1 ≡ i = omega arith in
    ap (λ x. x ++ unreached (drop (i + 1) steps) (i + 1 + 1) (memory_at memories)) made
    ∙ append_assoc marks (one ∷ []) (unreached (drop (i + 1) steps) (i + 1 + 1) (memory_at memories))
    ∙ ap (λ x. marks ++ x ∷ unreached (drop (i + 1) steps) (i + 1 + 1) (memory_at memories)) (is ∙ ap (λ j. slice_index_or memories j unmarked) (sym m))
    ∙ ap (λ (ss : List StepSpec). marks ++ unreached ss (i + 1) (memory_at memories)) (sym (drop_more steps i t.0 l))
    ∙ was
