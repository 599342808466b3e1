use Rattle.preprocess.proofs.Moving.{Apart, Spent}
use Rattle.preprocess.proofs.carrying.go_apart.Given as goal

abbrev pub invariant-loop-old : goal.invariant-loop-old
invariant-loop-old l = record { apart : Apart l.old-index l.olds; spent : Spent l.old-index l.olds l.free.items }
