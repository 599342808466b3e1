use Rattle.std.proofs.Common.{[], map, sym, ◌∙◌, subst, append-nil}
use Rattle.entry_step.specs.Log.{log_of}
use Rattle.intake_front.specs.Misfit.{HasReached, log_with}
use Rattle.entry_laws.specs.InForce.{texts_on}
use Rattle.intake_front.proofs.fitting.Judge.judge.Goals as goal

pub returns : goal.returns
returns c flat start before log stood are =
    let all = map flat (texts_on start.stage.conf.text (log_of (log_with before log c.args.group.now.entries))) in
    c.group_fits.ensures flat start before log [] (subst (HasReached flat start log) (sym c.self.view_is) stood) (are ∙ sym (append-nil all))
