use Rattle.std.proofs.Common.{drop}
use Rattle.std.specs.Prelude.{◌↔◌}
use Rattle.book.specs.Progress.{AreHere}
use Rattle.book.proofs.inputs.are_here.Given as goal

abbrev pub invariant-loop-one : goal.invariant-loop-one
invariant-loop-one l = AreHere l.all.before l.all.entries.now (drop l.one-index l.ones) ↔ AreHere l.all.before l.all.entries.now l.ones
