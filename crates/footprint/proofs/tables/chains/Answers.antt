use Rattle.std.proofs.Common.{◌∙◌, length, ap, arith}
use Rattle.footprint.specs.Feet.{chain}
use Rattle.footprint.proofs.TableLemmas.{rows_go}
use Rattle.footprint.proofs.tables.chains.Goals as goal

pub loop-place-preserved : goal.loop-place-preserved
loop-place-preserved c =
    rows_go (chain c.args.conf.now (length c.args.conf.now.items)) c.args.conf.now.items c.loop-place.made.items c.push-in-loop-place.new.self.items _ c.in_ok-chain.field-0 c.loop-place.place
    (omega (arith, c.loop-place-test.true, c.len-place-end.ensures)) c.in_ok-push-2.ensures.items (c.in_ok-chain.ensures ∙ ap (chain c.args.conf.now (length c.args.conf.now.items)) c.in_ok-id_of.ensures) c.loop-place.invariant
