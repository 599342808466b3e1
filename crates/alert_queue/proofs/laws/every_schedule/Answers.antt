use Rattle.alert_queue.proofs.Schedules.{keeps_answers, keeps_limits, keeps_one_open}
use Rattle.alert_queue.proofs.laws.every_schedule.Goals as goal

pub returns-clause-answers : goal.returns-clause-answers
returns-clause-answers c = keeps_answers

pub returns-clause-limits : goal.returns-clause-limits
returns-clause-limits c = keeps_limits

pub returns-clause-one_open : goal.returns-clause-one_open
returns-clause-one_open c = keeps_one_open
