use Rattle.std.proofs.Common.{◌∙◌, ap, ap₂, subst, sym, [], ◌∷◌}
use Rattle.std.proofs.lemmas.List.Elements.{All-append, All-cons, All-nil}
use Rattle.value_cache.specs.Cells.{IsIn}
use Rattle.preprocess.specs.Draft.{AreIn, kept_of}
use Rattle.preprocess.proofs.InCache.{rows_on}
use Rattle.preprocess.proofs.cells.moved_cells.Goals as goal

pub loop-cell-preserved : goal.loop-cell-preserved
loop-cell-preserved c =
    let made = c.in_ok-moved.field-0 in record {
      kept = rows_on kept_of kept_of c.loop-cell.made.items c.push.new.self.items c.args.cells.now c.loop-cell.cell-index made c.cell-item.result c.loop-cell-test.true c.in_ok-push.ensures.items
          (ap₂ (λ keep values. record { keep = keep; values = values }) c.in_ok-moved.ensures.keep c.in_ok-moved.ensures.values ∙ ap kept_of c.cell-item.is) c.loop-cell.invariant.kept;
      of = subst (AreIn c.args.to.now) (sym c.in_ok-push.ensures.items)
          (All-append (IsIn c.args.to.now) c.loop-cell.made.items (made ∷ []) c.loop-cell.invariant.of (All-cons (IsIn c.args.to.now) made [] c.in_ok-moved.ensures.of (All-nil (IsIn c.args.to.now))));
    }
