use Rattle.zbx_types.specs.declared.conf.Conf.{Conf}
use Rattle.std.proofs.Common.{◌≡◌, ◌∙◌, List, sym, ap, subst}
use Rattle.std.specs.Prelude.{flat_map}
use Rattle.zbx_types.specs.declared.entries.Cause2.TheVariants as causes
use Rattle.zbx_types.specs.declared.entries.Rec.{Rec}
use Rattle.trigger_state.specs.Problems.{absorbed_all}
use Rattle.trigger_state.specs.declared.problems.Open.{Open}
use Rattle.entry_step.specs.Records.{closed_records}
use Rattle.entry_step.specs.Represents.{problems_at}
use Rattle.entry_step.specs.Changes.{with_row, with_all, Absorbed}
use Rattle.entry_step.specs.declared.changes.Fresh.{Fresh}
use Rattle.entry_step.proofs.Started.{ends}
use Rattle.entry_step.proofs.records.end.Goals as goal

pub returns-clause-rows : goal.returns-clause-rows
returns-clause-rows c = λ homes size.
    let stage = c.args.stage.now in
    let rows : List (List Open) = c.args.problems.now in
    let is : c.in_ok-records.records ≡ flat_map (closed_records stage.conf c.args.number c.args.now causes.Expression (problems_at rows c.args.id)) c.args.events.now =
    c.in_ok-records.ensures ∙ ap (λ (conf : Conf). flat_map (closed_records conf c.args.number c.args.now causes.Expression c.problems_at-opens.result.now) c.args.events.now) c.conf.ensures
    ∙ ap (λ (os : List Open). flat_map (closed_records stage.conf c.args.number c.args.now causes.Expression os) c.args.events.now) c.problems_at-opens.ensures in
    let own : c.in_ok-all.all ≡ absorbed_all stage c.args.id (problems_at rows c.args.id) c.in_ok-records.records =
    c.in_ok-all.ensures ∙ ap (λ (os : List Open). absorbed_all stage c.args.id os c.as_slice.result.now) c.problems_at-opens.ensures
    ∙ ap (λ (rs : List Rec). absorbed_all stage c.args.id (problems_at rows c.args.id) rs) c.as_slice.ensures in
    subst (λ (fs : List Fresh). Absorbed stage rows c.in_ok-records.records (with_all (with_row rows c.args.id c.in_ok-all.all) fs)) (sym c.new.ensures)
    (ends stage c.args.number c.args.now c.args.id rows c.args.events.now c.in_ok-records.records c.in_ok-all.all is own homes)
