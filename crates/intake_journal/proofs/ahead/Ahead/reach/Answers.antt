use Rattle.std.proofs.Common.{◌+◌, ◌≤◌, length, refl, arith}
use Rattle.intake_journal.proofs.Reached.{reached_there, filled_there}
use Rattle.intake_journal.proofs.ahead.Ahead.reach.Goals as goal

pub returns-in_ok-self-clause-told : goal.returns-in_ok-self-clause-told
returns-in_ok-self-clause-told g c =
    let enough : c.args.size ≤ c.max.result = omega (arith, c.max.ensures) in
    filled_there (g.D.Disk.tells c.args.disk.now).bytes c.in_ok-self.field-0 c.args.at c.args.size c.max.result enough c.in_ok-self.ensures.told

pub returns-else-not-has-clause-told : goal.returns-else-not-has-clause-told
returns-else-not-has-clause-told g c =
    let ahead = c.args.self.now in
    let has = c.if-not-has.ensures refl in
    let inside : c.args.at + c.args.size ≤ ahead.at + length ahead.bytes = omega (arith, has.1, c.from.ensures) in
    reached_there (g.D.Disk.tells c.args.disk.now).bytes ahead.bytes ahead.at c.args.at c.args.size has.0 inside c.requires.ahead
