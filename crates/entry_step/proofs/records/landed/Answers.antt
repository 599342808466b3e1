use Rattle.std.proofs.Common.{◌∙◌, List, inl, inr, refl, sym, ap, subst}
use Rattle.zbx_types.specs.declared.entries.EventId.{EventId}
use Rattle.zbx_types.specs.declared.entries.Rec.{Rec}
use Rattle.entry_step.specs.Changes.{Leaves}
use Rattle.entry_step.specs.declared.changes.Change.TheVariants as change
use Rattle.entry_step.proofs.Represented.{ok_sub}
use Rattle.entry_step.proofs.records.landed.Goals as goal

pub returns-then-len-eq1 : goal.returns-then-len-eq1
returns-then-len-eq1 c =
    inl (record {
      made = refl;
      alone = sym c.len.ensures ∙ c.if-len-eq1.true;
      own = ap (λ (ss : List Rec). change.Add (record { problem = c.args.problem; steps = ss; rank = c.args.rank })) c.new.ensures;
      others = c.new-then-len-eq1.ensures;
    })

pub returns : goal.returns
returns c =
    ok_sub c.outcome_with.result _ _
    (λ o l. inr (subst (λ (es : List EventId). Leaves c.args.stage.now c.args.problems.now c.args.id es c.args.made.records o) c.as_slice-old.ensures l)) c.outcome_with.ensures
