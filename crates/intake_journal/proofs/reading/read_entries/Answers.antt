use Rattle.std.proofs.Common.{◌≡◌, length, arith}
use Rattle.intake_journal.proofs.Entries.{counted}
use Rattle.intake_journal.proofs.Reached.{exactly}
use Rattle.intake_journal.proofs.Sizes.{read_size}
use Rattle.intake_journal.proofs.reading.read_entries.Goals as goal

pub returns-clause-few : goal.returns-clause-few
returns-clause-few g c = counted c.args.count _ c.in_ok-read.read c.in_ok-read.ensures

pub returns-clause-sized : goal.returns-clause-sized
returns-clause-sized g c =
    let long : length c.part-bytes.result.now ≡ c.args.size = exactly c.args.size _ c.part-bytes.result.now c.part-bytes.ensures (omega (arith, c.if-bytes-size.false)) in
    read_size c.args.count c.args.size c.part-bytes.result.now c.in_ok-read.read long c.in_ok-read.ensures
