use Rattle.server_run.proofs.Whole.{is_run}
use Rattle.server_run.proofs.run.run_single.Goals as goal

pub returns-clause-run : goal.returns-clause-run
returns-clause-run g c =
    let r = c.report-status.ensures in
    is_run _ _ _ _ _ _ _ _ _ _ c.go-course.ensures.line r.ends r.print r.prints
