use Rattle.journal_opening.proofs.Distinct.{all_distinct}
use Rattle.server_run.proofs.course.run_beside.Goals as goal

pub started_beside-requires-clause-texts : goal.started_beside-requires-clause-texts
started_beside-requires-clause-texts g c = λ κs within. all_distinct
