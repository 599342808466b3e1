use Rattle.std.proofs.Common.{◌∙◌, sym}
use Rattle.event_text.proofs.CutLemmas.{take_ended, take_kept, take_past_end}
use Rattle.event_text.proofs.fronts.end_of_chars.Goals as goal

pub returns-then-left-start-clause-value : goal.returns-then-left-start-clause-value
returns-then-left-start-clause-value c =
    sym (take_ended c.args.text.now c.loop-index.index c.loop-index.left c.starts-start.result c.loop-index-test.true c.starts-start.ensures c.if-left-start.true)
    ∙ c.loop-index.invariant

pub loop-index-preserved : goal.loop-index-preserved
loop-index-preserved c =
    take_kept c.args.text.now c.loop-index.index c.loop-index.left c.starts-start.result c.loop-index-test.true c.starts-start.ensures c.if-left-start.false
    ∙ c.loop-index.invariant

pub returns-clause-value : goal.returns-clause-value
returns-clause-value c =
    take_past_end c.args.text.now c.loop-index.index c.loop-index.left c.loop-index-test.false ∙ c.loop-index.invariant
