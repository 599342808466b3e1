use Rattle.std.proofs.Common.{◌≡◌, drop}
use Rattle.zbx_types.specs.Masters.{entered, HasKeys}
use Rattle.zbx_types.proofs.dependencies.Walk.enter.Given as goal

abbrev pub invariant-loop-id : goal.invariant-loop-id
invariant-loop-id l = record {
  keys : HasKeys l.count l.self.ids.keys l.self.found.items;
  found : entered l.count l.self.found.items (drop l.id-index l.ids) ≡ entered l.count l.fn.self.found.items l.ids;
}
