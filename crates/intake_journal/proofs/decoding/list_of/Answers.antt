use Rattle.std.proofs.Common.{arith}
use Rattle.std.proofs.lemmas.Grind.{common_steps}
use Rattle.intake_journal.specs.Format.{entries_of}
use Rattle.intake_journal.proofs.Entries.{goes_on, ends, is_done, is_more}
use Rattle.intake_journal.proofs.decoding.list_of.Goals as goal

pub returns-in-Err : goal.returns-in-Err
returns-in-Err c = ends c.in-Err.why c.loop.entries c.args.count c.loop.counter c.loop.rest.now (entries_of c.args.count c.args.bytes.now) c.loop-test.true c.in-Err.ensures c.loop.invariant

pub loop-preserved : goal.loop-preserved
loop-preserved c =
    rw c.in_ok-push-in-Ok.ensures.ok (goes_on c.loop.entries c.args.count c.loop.counter c.loop.rest.now c.in-Ok.entry c.in-Ok.behind.now (entries_of c.args.count c.args.bytes.now) c.loop-test.true c.in-Ok.ensures c.loop.invariant)

pub returns-then-not-is_empty : goal.returns-then-not-is_empty
returns-then-not-is_empty c = is_more c.loop.entries c.args.count c.loop.counter c.loop.rest.now (entries_of c.args.count c.args.bytes.now) c.loop-test.false (grind (arith, common_steps)) c.loop.invariant

pub returns : goal.returns
returns c = is_done c.loop.entries c.args.count c.loop.counter c.loop.rest.now (entries_of c.args.count c.args.bytes.now) c.loop-test.false (grind (arith, common_steps)) c.loop.invariant
