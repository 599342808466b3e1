use Rattle.server_run.proofs.Going.{at_fault_of}
use Rattle.server_run.proofs.course.serve_alone.Goals as goal

pub returns-in-Going-clause-takes : goal.returns-in-Going-clause-takes
returns-in-Going-clause-takes g c = λ recovered start d0 w0 count r.
    let h = c.serve.ensures.served in
    at_fault_of g.D.Disk.tells g.S.StartName.base _ _ recovered start _ d0 _ w0 _ count _ (c.in-Going.ensures.served.takes.1 recovered start d0 w0 count r) _ c.in-Going.ensures.served.takes.0
