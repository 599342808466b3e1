use Rattle.std.proofs.Common.{◌≡◌, ◌≤◌, ◌+◌, drop}
use Rattle.history_functions.specs.Changes.{changes}
use Rattle.history_functions.proofs.changes.count_changes.Given as goal

abbrev pub invariant-loop-place : goal.invariant-loop-place
invariant-loop-place l = (l.count ≤ l.place) × (l.count + changes l.counted (drop l.place l.window) ≡ changes l.counted l.window)
