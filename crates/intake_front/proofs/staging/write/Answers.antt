use Rattle.intake_front.proofs.Journals.{has_more, leaves_either}
use Rattle.intake_front.proofs.staging.write.Goals as goal

pub returns-in-Ok-clause-kept : goal.returns-in-Ok-clause-kept
returns-in-Ok-clause-kept g c done entries size has =
    let e = c.in-Ok.ensures in
    has_more g.D.Disk.tells c.args.journal.now c.append.new.self c.args.block.now entries size has e.place.0 e.place.1 c.append.ensures.first.1 e.kept e.same_base e.durable c.append.ensures.told

pub returns-in-Ok-clause-any_moment : goal.returns-in-Ok-clause-any_moment
returns-in-Ok-clause-any_moment g c entries size has =
    leaves_either g.D.Disk.tells c.args.journal.now c.append.new.self c.args.block.now entries size has (c.append.ensures.any_moment c.requires.ready) (c.append.ensures.base_at_any_moment c.requires.ready)

pub returns-in-Err-clause-any_moment : goal.returns-in-Err-clause-any_moment
returns-in-Err-clause-any_moment g c entries size has =
    leaves_either g.D.Disk.tells c.args.journal.now c.append.new.self c.args.block.now entries size has (c.append.ensures.any_moment c.requires.ready) (c.append.ensures.base_at_any_moment c.requires.ready)
