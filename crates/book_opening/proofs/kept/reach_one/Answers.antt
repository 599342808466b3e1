use Rattle.std.proofs.Common.{◌++◌, ◌∷◌, ◌∙◌, ap, sym, subst, List}
use Rattle.zbx_types.specs.declared.entries.Rec.{Rec}
use Rattle.book_opening.specs.Opening.{IsPresent}
use Rattle.book_opening.specs.Outgoing.{log_records}
use Rattle.book_opening.specs.Tally.{tally_of, tally_with}
use Rattle.book_opening.proofs.Counting.{tally_more}
use Rattle.book_opening.proofs.Growing.{on_ok, of_any}
use Rattle.book_opening.proofs.kept.reach_one.Goals as goal

pub returns-clause-reached : goal.returns-clause-reached
returns-clause-reached g c = on_ok c.count_all.result _ _ (λ counted log later sound epochs so_far.
    let flat = g.S.StartName.flat in
    let base = g.S.StartName.base in
    let before = log_records flat base log in
    let made = c.in_ok-records.ensures.made log later sound epochs so_far.present in
    record {
      present = subst (IsPresent flat base (c.args.entry.now ∷ log)) (sym c.count_all.ensures.present) made.1;
      tally = counted ∙ ap (λ t. tally_with t c.as_slice.result.now) so_far.tally ∙ tally_more base.lines before c.as_slice.result.now
          ∙ ap (λ (rs : List Rec). tally_of base.lines (before ++ rs)) (c.as_slice.ensures ∙ made.0);
    }) c.count_all.ensures.tally

pub returns-clause-epochs : goal.returns-clause-epochs
returns-clause-epochs g c = of_any c.count_all.result _ c.in_ok-records.ensures.epochs

pub returns-clause-len : goal.returns-clause-len
returns-clause-len g c = of_any c.count_all.result _ c.in_ok-records.ensures.len
