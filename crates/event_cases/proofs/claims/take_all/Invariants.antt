use Rattle.syncer_gate.specs.Gate.{AreOffered}
use Rattle.event_cases.proofs.claims.take_all.Given as goal

abbrev pub invariant-loop-words : goal.invariant-loop-words
invariant-loop-words l = AreOffered l.claims l.entries
