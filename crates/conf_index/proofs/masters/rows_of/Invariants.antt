use Rattle.std.proofs.Common.{◌≡◌, [], ◌∷◌, map, take}
use Rattle.zbx_types.specs.Ids.{ids_from}
use Rattle.zbx_types.specs.Masters.{masters_of}
use Rattle.conf_index.proofs.masters.rows_of.Given as goal

abbrev pub invariant-loop-place : goal.invariant-loop-place
invariant-loop-place l = l.rows.items ≡ [] ∷ map (masters_of l.conf) (take l.place (ids_from 1 l.conf.triggers))
