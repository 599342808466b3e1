use Rattle.std.proofs.Common.{◌≡◌, ◌≤◌, ◌+◌, drop}
use Rattle.zbx_types.specs.Operators.{pattern_of}
use Rattle.history_functions.specs.Matching.{count_matching}
use Rattle.history_functions.proofs.matching.count_matching.Given as goal

abbrev pub invariant-loop-place : goal.invariant-loop-place
invariant-loop-place l =
    (l.matcher ≡ pattern_of l.test.operator l.test.arg.now)
    × (l.count ≤ l.place)
    × (l.count + count_matching l.test.operator l.test.arg.now (drop l.place l.window) ≡ count_matching l.test.operator l.test.arg.now l.window)
