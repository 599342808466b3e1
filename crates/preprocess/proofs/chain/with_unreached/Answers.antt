use Rattle.std.proofs.Common.{arith, ◌∙◌, ap, slice_index_or}
use Rattle.preprocess.proofs.Chaining.{unreached_on}
use Rattle.preprocess.proofs.chain.with_unreached.Goals as goal

pub loop-index-preserved : goal.loop-index-preserved
loop-index-preserved c = unreached_on c.args.steps.now c.args.memories.now _ c.loop-index.marks c.push.new.self c.loop-index.index c.in_ok-copy.field-0 (omega arith)
    (c.in_ok-copy.ensures ∙ c.memory_at.ensures ∙ ap (slice_index_or c.args.memories.now c.loop-index.index) c.new-unmarked.ensures) c.in_ok-push.ensures.ok c.loop-index.invariant
