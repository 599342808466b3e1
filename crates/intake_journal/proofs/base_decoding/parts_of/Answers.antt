use Rattle.intake_journal.specs.BaseForm.{parts_at}
use Rattle.intake_journal.proofs.PartsRead.{goes_on, ends, is_done}
use Rattle.intake_journal.proofs.base_decoding.parts_of.Goals as goal

pub returns-in-Err : goal.returns-in-Err
returns-in-Err g c = ends g.R.PartReader.part_at c.in-Err.why c.loop.parts c.args.count c.loop.counter c.loop.rest.now (parts_at g.R.PartReader.part_at c.args.count c.args.bytes.now) c.loop-test.true c.in-Err.ensures c.loop.invariant

pub loop-preserved : goal.loop-preserved
loop-preserved g c =
    rw c.in_ok-push-in-Ok.ensures.ok (goes_on g.R.PartReader.part_at c.loop.parts c.args.count c.loop.counter c.loop.rest.now c.in-Ok.part c.in-Ok.behind.now (parts_at g.R.PartReader.part_at c.args.count c.args.bytes.now) c.loop-test.true c.in-Ok.ensures c.loop.invariant)

pub returns : goal.returns
returns g c = is_done g.R.PartReader.part_at c.loop.parts c.args.count c.loop.counter c.loop.rest.now (parts_at g.R.PartReader.part_at c.args.count c.args.bytes.now) c.loop-test.false c.loop.invariant
