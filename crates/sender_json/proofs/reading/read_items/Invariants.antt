use Rattle.std.proofs.Common.{◌≡◌, ℕ, ◌≤◌, List, ◌++◌, length}
use Rattle.json.specs.Json.{items, value, parse_map}
use Rattle.serde_json.specs.Data.{Items}
use Rattle.serde_json.specs.Read.{of_items, converted}
use Rattle.sender_json.specs.Requests.{all_by}
use Rattle.sender_json.specs.Tokens.{items_first}
use Rattle.sender_json.proofs.reading.read_items.Given as goal

abbrev pub invariant-items : goal.invariant-items
invariant-items g l = record {
  turns : ℕ;
  enough : length l.reader ≤ turns;
  before : Items → Items;
  reads : items_first l.depth l.initial.reader ≡ parse_map before (converted of_items (items (value l.depth) turns l.reader));
  ones : List g.row.E.Denot;
  gathered : l.found ≡ g.G.Gatherer.of l.gatherer ones;
  kept : (ds : Items) → all_by g.E.Element.of (before ds) ≡ ones ++ all_by g.E.Element.of ds;
  shorter : length l.reader ≤ length l.initial.reader;
}

abbrev pub decreases-items : goal.decreases-items
decreases-items g l = length l.reader
