use Rattle.std.proofs.Common.{◌++◌, ◌∷◌, ◌∙◌, sym, subst, List}
use Rattle.zbx_types.specs.declared.entries.Rec.{Rec}
use Rattle.book_opening.specs.Opening.{IsPresent, IsRecorded}
use Rattle.book_opening.specs.Outgoing.{log_records}
use Rattle.book_opening.proofs.Growing.{on_ok, of_any}
use Rattle.book_opening.proofs.opening.replay_one.Goals as goal

pub returns-clause-replayed : goal.returns-clause-replayed
returns-clause-replayed g c = on_ok c.compare.result _ _ (λ grew log later sound epochs so_far.
    let flat = g.S.StartName.flat in
    let base = g.S.StartName.base in
    let outbox = g.O.Sink.tells c.args.outbox.now in
    let made = c.in_ok-records.ensures.made log later sound epochs so_far.present in
    record {
      present = subst (IsPresent flat base (c.args.entry.now ∷ log)) (sym c.compare.ensures.present) made.1;
      recorded = subst (λ (rs : List Rec). IsRecorded base.lines (log_records flat base log ++ rs) outbox c.compare.new.so_far) (c.as_slice.ensures ∙ made.0)
          (grew base.lines (log_records flat base log) (record { tally = so_far.recorded.tally; compared = so_far.recorded.compared; missing = so_far.recorded.missing }));
    }) c.compare.ensures.lines

pub returns-clause-epochs : goal.returns-clause-epochs
returns-clause-epochs g c = of_any c.compare.result _ c.in_ok-records.ensures.epochs

pub returns-clause-len : goal.returns-clause-len
returns-clause-len g c = of_any c.compare.result _ c.in_ok-records.ensures.len
