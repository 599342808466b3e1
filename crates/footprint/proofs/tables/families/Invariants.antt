use Rattle.std.proofs.Common.{◌≡◌, ◌++◌, ◌+◌, ◌∷◌, drop}
use Rattle.zbx_types.specs.Masters.{masters_of}
use Rattle.footprint.specs.Rows.{rows_from, table_of}
use Rattle.footprint.proofs.tables.families.Given as goal

abbrev pub invariant-loop-place : goal.invariant-loop-place
invariant-loop-place l = l.made.items ++ rows_from (λ t. t ∷ masters_of l.conf t) (l.place + 1) (drop l.place l.conf.triggers) ≡ table_of l.conf.triggers (λ t. t ∷ masters_of l.conf t)
