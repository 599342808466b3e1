use Rattle.std.proofs.Common.{◌+◌}
use Rattle.intake_front.proofs.Sound.{kept_start}
use Rattle.intake_front.proofs.front.Front.new.Goals as goal

pub returns-in-Ok-open-clause-sound : goal.returns-in-Ok-open-clause-sound
returns-in-Ok-open-clause-sound g c flat ground of stands full fits =
    kept_start flat ground c.args.journal.base c.args.ready.now.conf c.args.ready.now.conf.text of stands c.args.kept (c.args.journal.at + 1) c.in-Ok-open.held c.in-Ok-open.ensures.made full fits
