use Rattle.preprocess.proofs.InCache.{in_made}
use Rattle.preprocess.proofs.carrying.cells_for.Goals as goal

pub returns-then-not-branch-clause-of : goal.returns-then-not-branch-clause-of
returns-then-not-branch-clause-of c = in_made (λ made. made.items) c.args.cells.now.items c.as_slice.result.now c.copied_cells.result c.as_slice.ensures.value c.copied_cells.ensures.of

pub returns-clause-of : goal.returns-clause-of
returns-clause-of c = λ cache h. c.move_in.ensures.of cache (c.in_ok-made.ensures.of cache) h
