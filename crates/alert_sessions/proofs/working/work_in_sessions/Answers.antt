use Rattle.alert_sessions.proofs.Keeping.{disk_begins}
use Rattle.alert_sessions.proofs.working.work_in_sessions.Goals as goal

pub work_named-requires-clause-disk : goal.work_named-requires-clause-disk
work_named-requires-clause-disk g c κs within =
    disk_begins (g.D.Disk.tells c.args.marks.disk) c.args.marks.list c.args.marks.is_broken ((g.met.D.Disk g.world.𝓛 g.world.𝓜 g.world.𝓡 ((λ s x. x), (λ x. x), (λ x. x), λ x. x)).lawful c.args.marks.disk) c.requires.going c.requires.durable
