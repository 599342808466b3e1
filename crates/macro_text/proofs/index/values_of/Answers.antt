use Rattle.std.proofs.Common.{ℕ}
use Rattle.macro_text.specs.Index.{value_in}
use Rattle.macro_text.proofs.Indexed.{first_more}
use Rattle.macro_text.proofs.index.values_of.Goals as goal

pub loop-more-preserved : goal.loop-more-preserved
loop-more-preserved c = λ q.
    first_more c.args.listed.now c.loop-more.more-index c.more-item.result q (value_in c.loop-more.values q) (value_in c.note.new.values q) c.loop-more-test.true c.more-item.is (c.loop-more.invariant q) (c.in_ok-note.ensures q)
