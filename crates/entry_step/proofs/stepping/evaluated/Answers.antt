use Rattle.std.proofs.Common.{◌∙◌}
use Rattle.entry_step.proofs.Represented.{put_back_none}
use Rattle.entry_step.proofs.stepping.evaluated.Goals as goal

pub returns-in-Ok-clause-same : goal.returns-in-Ok-clause-same
returns-in-Ok-clause-same g c = c.evaluate_all.ensures.same ∙ put_back_none c.args.problems.now.items _ c.new-2.ensures

pub returns-in-Err-clause-err : goal.returns-in-Err-clause-err
returns-in-Err-clause-err g c = c.put_back.ensures ∙ c.evaluate_all.ensures.same ∙ put_back_none c.args.problems.now.items _ c.new-2.ensures
