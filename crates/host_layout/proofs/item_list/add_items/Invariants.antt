use Rattle.std.proofs.Common.{◌≡◌, ◌++◌, drop, codes}
use Rattle.host_layout.specs.Items.{item_of}
use Rattle.host_layout.specs.Elements.{own_items}
use Rattle.host_layout.specs.Names.{named_items}
use Rattle.host_layout.specs.Places.{each, placed_from}
use Rattle.host_layout.specs.Sources.{placed_of}
use Rattle.host_layout.proofs.item_list.add_items.Given as goal

abbrev pub invariant-loop-index : goal.invariant-loop-index
invariant-loop-index l = record {
  gives : each (item_of l.owner.id l.owner.macros) l.list.items (placed_from ((placed_of l.source).path ++ codes "/items") l.index (drop l.index l.source.body.now.items))
      ≡ each (item_of l.owner.id l.owner.macros) l.fn.list.items (own_items l.source);
  names : l.list.names ≡ named_items l.list.items;
}
