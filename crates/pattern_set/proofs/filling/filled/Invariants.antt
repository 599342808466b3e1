use Rattle.std.proofs.Common.{◌≡◌, ◌≤◌, ◌++◌, length, IsUtf8}
use Rattle.pattern_set.specs.Filling.{texts_of, filled_by}
use Rattle.pattern_set.proofs.filling.filled.Given as goal

abbrev pub invariant-loop-rest : goal.invariant-loop-rest
invariant-loop-rest l =
    (l.made.items ++ filled_by (texts_of l.groups) l.rest ≡ filled_by (texts_of l.groups) l.output)
    × IsUtf8 (l.made.items ++ l.rest)
    × (length l.made.items ≤ l.limit)

abbrev pub decreases-loop-rest : goal.decreases-loop-rest
decreases-loop-rest l = length l.rest
