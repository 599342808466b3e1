-- A written frame is found again.
use Rattle.zbxd_frame.proofs.FrameLaws.{found_written}
use Rattle.zbxd_frame.proofs.writing.write.Goals as goal

pub returns-clause-found_again : goal.returns-clause-found_again
returns-clause-found_again c rest = found_written c.args.body.now rest c.requires
