use Rattle.std.proofs.Common.{◌≡◌, drop}
use Rattle.zbx_types.specs.Operators.{pattern_of}
use Rattle.history_functions.specs.Matching.{any_matches}
use Rattle.history_functions.proofs.matching.any_matches.Given as goal

abbrev pub invariant-loop-place : goal.invariant-loop-place
invariant-loop-place l =
    (l.matcher ≡ pattern_of l.test.operator l.test.arg.now)
    × (any_matches l.test.operator l.test.arg.now (drop l.place l.window) ≡ any_matches l.test.operator l.test.arg.now l.window)
