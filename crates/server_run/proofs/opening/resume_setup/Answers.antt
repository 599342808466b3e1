use Rattle.server_run.proofs.Results.{is_ok_of}
use Rattle.server_run.proofs.opening.resume_setup.Goals as goal

pub resume-requires-clause-conf : goal.resume-requires-clause-conf
resume-requires-clause-conf g c = is_ok_of _ c.args.setup.ready.conf c.args.setup.conf_is
