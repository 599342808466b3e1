use Rattle.entry_step.proofs.Landing.{settled_rows}
use Rattle.entry_step.proofs.records.judge.Goals as goal

pub returns-clause-rows : goal.returns-clause-rows
returns-clause-rows c =
    settled_rows c.settled.result c.args.calls.now.ready.now c.args.calls.now.occasion.number c.args.problems.now c.args.calls.now.id c.args.calls.now.trigger.now c.args.held c.problems_at-opens.result.now c.plan_value-p.result c.recovery_value-r.result c.as_slice.result.now
    c.args.calls.now.occasion.is_value c.in_ok-verdict.verdict c.in_ok-verdict.ensures c.problems_at-opens.ensures c.settled.ensures.rows
