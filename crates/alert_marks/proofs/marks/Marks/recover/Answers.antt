use Rattle.alert_marks.proofs.Marking.{settled_keeps}
use Rattle.alert_marks.proofs.marks.Marks.recover.Goals as goal

pub returns-in-Ok-clause-durable : goal.returns-in-Ok-clause-durable
returns-in-Ok-clause-durable g c = settled_keeps (g.D.Disk.tells c.open.new.disk) _ _ _ c.in-Ok.ensures.settled
