use Rattle.std.proofs.Common.{◌∙◌, ◌+◌, ◌-◌, length, sym, arith}
use Rattle.footprint.proofs.TableLemmas.{chain_stops, chain_ends, chain_goes}
use Rattle.footprint.proofs.tables.chain.Goals as goal

pub returns-else-is_there : goal.returns-else-is_there
returns-else-is_there c = chain_stops c.args.conf.now c.loop-step.row _ (length c.args.conf.now.items - c.loop-step._step) c.loop-step.at (sym c.is_there.ensures ∙ c.if-is_there.false) c.loop-step.invariant

pub loop-step-preserved : goal.loop-step-preserved
loop-step-preserved c =
    chain_goes c.args.conf.now c.loop-step.row c.push.new.self _ (length c.args.conf.now.items - c.loop-step._step) (length c.args.conf.now.items - (c.loop-step._step + 1)) c.loop-step.at c.master_of-at.result
    (omega (arith, c.loop-step-test.true, c.len-step-end.ensures)) (sym c.is_there.ensures ∙ c.if-is_there.true) c.in_ok-push.ensures.ok c.master_of-at.ensures c.loop-step.invariant

pub returns : goal.returns
returns c = chain_ends c.args.conf.now c.loop-step.row _ (length c.args.conf.now.items - c.loop-step._step) c.loop-step.at (omega (arith, c.loop-step-test.false, c.len-step-end.ensures)) c.loop-step.invariant
