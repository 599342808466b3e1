use Rattle.std.proofs.Common.{◌≡◌, drop, map}
use Rattle.host_layout.specs.Items.{item_of, placed_items}
use Rattle.host_layout.specs.Names.{named_items}
use Rattle.host_layout.specs.Places.{each}
use Rattle.host_layout.specs.Sources.{placed_of}
use Rattle.host_layout.proofs.item_list.add_owned.Given as goal

abbrev pub invariant-loop-source : goal.invariant-loop-source
invariant-loop-source l = record {
  gives : each (item_of l.owner.id l.owner.macros) l.list.items (placed_items (map placed_of (drop l.source-index l.owner.sources)))
      ≡ each (item_of l.owner.id l.owner.macros) l.fn.list.items (placed_items (map placed_of l.owner.sources));
  names : l.list.names ≡ named_items l.list.items;
}
