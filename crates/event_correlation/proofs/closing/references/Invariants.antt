use Rattle.std.proofs.Common.{◌≡◌, map, take}
use Rattle.event_correlation.proofs.closing.references.Given as goal

abbrev pub invariant-loop-rec : goal.invariant-loop-rec
invariant-loop-rec l = map (λ rec. rec.now) l.made.items ≡ take l.rec-index l.records
