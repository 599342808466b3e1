use Rattle.std.proofs.Common.{arith}
use Rattle.footprint.proofs.RowLemmas.{row_noted}
use Rattle.footprint.proofs.rows.note.Goals as goal

pub returns-in_ok-push-clause-rows : goal.returns-in_ok-push-clause-rows
returns-in_ok-push-clause-rows c =
    row_noted c.args.rows.now.items c.args.id c.args.one c.index_mut.result.now c.push.new.self (omega (arith, c.if-id-gt0.true)) (omega (arith, c.if-place-len.true, c.len.ensures)) c.index_mut.ensures.value c.in_ok-push.ensures.ok
