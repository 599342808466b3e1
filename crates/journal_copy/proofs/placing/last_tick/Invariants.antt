use Rattle.std.proofs.Common.{◌≡◌, take}
use Rattle.base_laws.specs.Bases.{last_tick}
use Rattle.entry_step.specs.Log.{log_of}
use Rattle.journal_copy.proofs.placing.last_tick.Given as goal

-- the last Tick of the entries so far, or that before them
abbrev pub invariant-loop-numbered : goal.invariant-loop-numbered
invariant-loop-numbered l = l.last ≡ last_tick l.fn.before (log_of (take l.numbered-index l.entries))
