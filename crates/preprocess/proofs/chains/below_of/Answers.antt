use Rattle.std.proofs.Common.{arith, ◌≡◌, ◌++◌, ◌+◌, ℕ, List, length, get_or, ap, ◌∙◌}
use Rattle.std.proofs.lemmas.List.{length-replicate}
use Rattle.preprocess.specs.Chains.{dependents_from, listed}
use Rattle.preprocess.specs.Rows.{noted}
use Rattle.preprocess.proofs.Rows.{listed_none, listed_on, length_on}
use Rattle.preprocess.proofs.chains.below_of.Goals as goal

pub loop-index-init : goal.loop-index-init
loop-index-init c =
    let made = c.in_ok-below.ensures in
    record {
      counted = ap length made ∙ length-replicate _ _ ∙ ap length c.as_slice-items.ensures;
      below = λ q a b. ap (λ rows. listed rows q ++ dependents_from q 1 c.args.conf.now.items) made ∙ ap (λ (xs : List ℕ). xs ++ dependents_from q 1 c.args.conf.now.items) (listed_none _ q);
    }

pub loop-index-preserved : goal.loop-index-preserved
loop-index-preserved c =
    let after : c.note.new.below.items ≡ noted c.loop-index.below.items c.index-items-index.result (c.loop-index.index + 1) =
    c.in_ok-note.ensures ∙ ap (noted c.loop-index.below.items c.index-items-index.result) c.in_ok-id_of.ensures in
    let items = ap length c.as_slice-items.ensures in
    record {
      counted = length_on c.loop-index.below.items c.note.new.below.items c.index-items-index.result (c.loop-index.index + 1) after ∙ c.loop-index.invariant.counted;
      below = λ q a b. listed_on c.args.conf.now.items c.loop-index.below.items c.note.new.below.items c.loop-index.index c.index-items-index.result
          (omega (arith, items)) c.loop-index.invariant.counted (c.index-items-index.is ∙ ap (λ xs. get_or xs c.loop-index.index c.index-items-index.result) c.as_slice-items.ensures) after q a b (c.loop-index.invariant.below q a b);
    }
