use Rattle.std.proofs.Common.{length}
use Rattle.zbx_types.specs.Masters.{HasKeys}
use Rattle.zbx_types.proofs.MasterLemmas.{Walks}
use Rattle.zbx_types.proofs.dependencies.walk_from.Given as goal

abbrev pub invariant-loop-place : goal.invariant-loop-place
invariant-loop-place l = record {
  keys : HasKeys (length l.conf.triggers) l.walk.ids.keys l.walk.found.items;
  walks : Walks l.conf l.id l.place l.walk.found.items;
}
