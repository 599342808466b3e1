use Rattle.std.proofs.Common.{◌≡◌, ◌++◌, drop}
use Rattle.preprocess.specs.Cached.{visits_shown}
use Rattle.preprocess.specs.Draft.{failures_of}
use Rattle.preprocess.proofs.draft.failures_of.Given as goal

abbrev pub invariant-loop-visit : goal.invariant-loop-visit
invariant-loop-visit l = l.failures ++ failures_of l.conf l.number (visits_shown (drop l.visit-index l.visits)) ≡ failures_of l.conf l.number (visits_shown l.visits)
