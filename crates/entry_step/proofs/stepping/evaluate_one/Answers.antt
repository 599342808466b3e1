use Rattle.std.proofs.Common.{◌≡◌, ◌∙◌, true, ℕ, List, ap, sym, subst}
use Rattle.zbx_types.specs.declared.entries.Stored.{Stored}
use Rattle.zbx_types.specs.declared.conf.Conf.{Conf}
use Rattle.trigger_state.specs.declared.problems.Open.{Open}
use Rattle.entry_step.specs.Kept.{still_to_come, SeesFor}
use Rattle.entry_step.specs.Records.{evaluated}
use Rattle.entry_step.specs.Represents.{problems_at}
use Rattle.entry_step.specs.Changes.{is_asked, outcome_records, outcome_rows, AreTidy, Absorbed}
use Rattle.entry_step.proofs.Turns.{run_on}
use Rattle.entry_step.proofs.stepping.evaluate_one.Goals as goal

pub returns-clause-runs : goal.returns-clause-runs
returns-clause-runs g c =
    let id : ℕ = c.args.id in
    let o = c.in_ok-outcome.outcome in
    let asked : is_asked c.args.scene.now.ready.now.conf c.args.scene.now.coming.now id ≡ true = sym (c.is_asked.ensures ∙ ap (λ (conf : Conf). is_asked conf c.args.scene.now.coming.now id) c.conf.ensures) ∙ c.if-not-is_asked.false in
    let records : (items : ℕ → List Stored) → SeesFor c.args.scene.now.ready.now.conf c.args.scene.now.items.now (still_to_come c.args.scene.now.coming.now) c.args.scene.now.occasion.now items id → outcome_records o ≡ evaluated c.args.scene.now.ready.now c.args.scene.now.occasion items (problems_at c.args.problems.now.items) id =
    λ items s. subst (λ (rows : List (List Open)). outcome_records o ≡ evaluated c.args.scene.now.ready.now c.args.scene.now.occasion items (problems_at rows) id) c.as_slice-rows.ensures.value (c.in_ok-outcome.ensures.records items s) in
    let lands : AreTidy c.args.scene.now.ready.now c.args.scene.now.occasion.number c.args.problems.now.items → Absorbed c.args.scene.now.ready.now c.args.problems.now.items (outcome_records o) (outcome_rows c.args.problems.now.items id o) =
    subst (λ (rows : List (List Open)). AreTidy c.args.scene.now.ready.now c.args.scene.now.occasion.number rows → Absorbed c.args.scene.now.ready.now rows (outcome_records o) (outcome_rows rows id o)) c.as_slice-rows.ensures.value c.in_ok-outcome.ensures.rows in
    run_on c.args.scene.now.ready.now c.args.scene.now.occasion c.args.scene.now.items.now (still_to_come c.args.scene.now.coming.now) c.args.problems.now.items c.take.new.problems.items id c.args.draft.now.records c.take.new.self.records o
    records lands c.in_ok-take.ensures.records c.in_ok-take.ensures.rows (is_asked c.args.scene.now.ready.now.conf c.args.scene.now.coming.now id) asked
