use Rattle.std.proofs.Common.{◌≡◌, ◌<◌, ◌++◌, [], All, length, drop, codes}
use Rattle.config_templates.specs.Depends.{depend_of}
use Rattle.host_layout.specs.Elements.{element_path}
use Rattle.host_layout.specs.Places.{each, placed, placed_from}
use Rattle.config_templates.proofs.depends.depends.Given as goal

abbrev pub invariant-loop-at : goal.invariant-loop-at
invariant-loop-at l = record {
  gives : each (depend_of l.known.raw.now.hosts l.known.list.now.triggers l.own) l.ends (placed_from (element_path l.source (codes "/triggers") l.index ++ codes "/depends") l.at (drop l.at l.raw.depends))
      ≡ each (depend_of l.known.raw.now.hosts l.known.list.now.triggers l.own) [] (placed (element_path l.source (codes "/triggers") l.index ++ codes "/depends") l.raw.depends);
  within : All (λ t. t < length l.known.list.now.triggers) l.ends;
}
