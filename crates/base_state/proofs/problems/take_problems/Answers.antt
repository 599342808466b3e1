use Rattle.std.proofs.Common.{rules}
use Rattle.zbx_types.specs.Records.{event_of}
use Rattle.base_laws.specs.Bases.{read_problem}
use Rattle.entry_step.specs.Changes.{Absorbed}
use Rattle.base_laws.specs.Restoring.{IsHoused}
use Rattle.base_state.proofs.Housing.{taken_problem}
use Rattle.base_state.proofs.problems.take_problems.Goals as goal

pub loop-problem-preserved : goal.loop-problem-preserved
loop-problem-preserved c =
    let second : IsHoused c.args.stage.now c.loop-problem.rows.items (event_of c.problem-item.result.problem) → Absorbed c.args.stage.now c.loop-problem.rows.items (read_problem c.problem-item.result) c.take_problem.new.rows.items = search rules in
    taken_problem c.args.stage.now c.args.rows.now.items c.loop-problem.rows.items c.take_problem.new.rows.items c.args.problems.now c.loop-problem.problem-index c.problem-item.result c.loop-problem-test.true c.problem-item.is c.loop-problem.invariant second
