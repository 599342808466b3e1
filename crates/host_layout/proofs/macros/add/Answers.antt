use Rattle.std.proofs.Common.{refl}
use Rattle.host_layout.proofs.MacroLists.{one_more}
use Rattle.host_layout.proofs.macros.add.Goals as goal

pub loop-raw-preserved : goal.loop-raw-preserved
loop-raw-preserved c =
    one_more c.args.macros.now c.loop-raw.raw-index c.raw-item.result c.loop-raw.made c.push.new.self _ _
    c.loop-raw-test.true c.raw-item.is refl c.in_ok-push.ensures.ok c.loop-raw.invariant
