use Rattle.journal_opening.proofs.Distinct.{all_distinct}
use Rattle.server_run.proofs.course.run_alone.Goals as goal

pub started-requires-clause-texts : goal.started-requires-clause-texts
started-requires-clause-texts g c = all_distinct
