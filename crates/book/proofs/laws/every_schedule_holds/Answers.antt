use Rattle.book.proofs.Scheduled.{every_schedule_holds}
use Rattle.book.proofs.laws.every_schedule_holds.Goals as goal

pub returns : goal.returns
returns c = every_schedule_holds
