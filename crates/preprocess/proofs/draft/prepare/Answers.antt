use Rattle.preprocess.proofs.InCache.{in_same}
use Rattle.preprocess.proofs.draft.prepare.Goals as goal

pub returns-in_err-reserve_all-clause-of : goal.returns-in_err-reserve_all-clause-of
returns-in_err-reserve_all-clause-of c other h = in_same other c.reserve_all.new.cells.items c.args.cells.now.cells.items c.reserve_all.ensures.same h

pub returns-clause-of : goal.returns-clause-of
returns-clause-of c other h = in_same other c.reserve_all.new.cells.items c.args.cells.now.cells.items c.reserve_all.ensures.same h
