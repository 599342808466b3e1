use Rattle.std.proofs.Common.{ap, ◌∙◌}
use Rattle.std.specs.Result.{result_ok}
use Rattle.config_templates.specs.Flat.{flat_of}
use Rattle.journal_opening.proofs.Texts.{text_kept}
use Rattle.server_run.proofs.Runs.{unconfigured, is_configured}
use Rattle.server_run.proofs.opening.set_up.Goals as goal

pub returns-clause-err : goal.returns-clause-err
returns-clause-err g c =
    unconfigured _ c.in-Ok.plan _ _ _ c.as_slice.result.now _ c.in-Ok.ensures.ok (rw c.as_slice.ensures c.in-Ok-read_all.ensures.text) c.in-Err.ensures.err

pub returns-in-Ok-prepare-clause-ok : goal.returns-in-Ok-prepare-clause-ok
returns-in-Ok-prepare-clause-ok g c =
    is_configured _ c.in-Ok.plan _ _ c.as_slice.result.now _ c.in-Ok.ensures.ok (rw c.as_slice.ensures c.in-Ok-read_all.ensures.text) (rw c.as_slice.ensures c.in-Ok-read_all.ensures.end) c.in-Ok-prepare.ensures.ok.0

pub invariant_of-result : goal.invariant_of-result
invariant_of-result g c =
    let p = c.in-Ok-prepare.ensures.ok in
    record { first = p.1; conf_is = ap result_ok (ap flat_of (text_kept c.as_slice.result.now c.in-Ok-prepare.ready.conf p.0) ∙ p.0) }
