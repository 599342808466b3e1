use Rattle.std.proofs.Common.{rules, ◌∷◌, [], map}
use Rattle.zbx_types.specs.Records.{event_of}
use Rattle.base_laws.specs.Bases.{read_ran}
use Rattle.entry_step.specs.Changes.{Absorbed}
use Rattle.base_laws.specs.Restoring.{IsHoused}
use Rattle.base_state.proofs.Housing.{taken_both}
use Rattle.entry_step.proofs.Loops.{on_on}
use Rattle.base_state.proofs.problems.take_problem.Goals as goal

pub returns : goal.returns
returns c =
    let problem = c.args.problem.now.problem in
    let first : IsHoused c.args.stage.now c.args.rows.now.items (event_of problem) → Absorbed c.args.stage.now c.args.rows.now.items (problem ∷ []) c.take.new.rows.items = search rules in
    on_on c.take_steps.result _ _
    (λ second. taken_both c.args.stage.now c.args.rows.now.items c.take.new.rows.items c.take_steps.new.rows.items (event_of problem) (problem ∷ []) (map (read_ran (event_of problem)) c.args.problem.now.ran) first second)
    (search rules)
