use Rattle.std.proofs.Common.{◌≡◌, ◌+◌, drop, codes}
use Rattle.host_layout.specs.Items.{items_from, items_of}
use Rattle.host_layout.specs.Links.{sources_of}
use Rattle.host_layout.specs.Names.{named_items}
use Rattle.host_layout.specs.Places.{each_list, placed_from}
use Rattle.host_layout.proofs.item_list.items.Given as goal

abbrev pub invariant-loop-place : goal.invariant-loop-place
invariant-loop-place l = record {
  gives : each_list (λ before h. items_from l.raw (h.place + 1) (sources_of l.raw h) before) l.list.items (placed_from (codes "/hosts") l.place (drop l.place l.raw.hosts)) ≡ items_of l.raw;
  names : l.list.names ≡ named_items l.list.items;
}
