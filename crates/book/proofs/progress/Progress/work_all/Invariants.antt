use Rattle.book.proofs.Finishing.{IsLeft}
use Rattle.book.proofs.progress.Progress.work_all.Given as goal

abbrev pub invariant-loop-entry : goal.invariant-loop-entry
invariant-loop-entry g l = IsLeft l.fn.self.entries l.self.entries l.fn.self.gate.marks l.self.gate.marks l._entry
