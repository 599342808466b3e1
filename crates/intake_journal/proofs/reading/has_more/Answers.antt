use Rattle.std.proofs.Common.{◌+◌, ◌≤◌, length, refl, arith}
use Rattle.intake_journal.proofs.Reached.{more_there}
use Rattle.intake_journal.proofs.reading.has_more.Goals as goal

pub returns-then-has-clause-told : goal.returns-then-has-clause-told
returns-then-has-clause-told g c =
    let ahead = c.args.ahead.now in
    let has = c.if-has.ensures refl in
    let inside : c.args.at + (c.args.size + 1) ≤ ahead.at + length ahead.bytes = omega (arith, has.1, c.from-size.ensures) in
    more_there (g.D.Disk.tells c.args.disk.now).bytes ahead.bytes ahead.at c.args.at c.args.size has.0 inside c.requires.ahead
