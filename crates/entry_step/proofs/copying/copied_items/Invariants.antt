use Rattle.std.proofs.Common.{◌≡◌, ◌++◌, map, drop}
use Rattle.preprocess.specs.Draft.{roomless}
use Rattle.entry_step.specs.Exchange.{roomless_row, item_copies}
use Rattle.entry_step.proofs.copying.copied_items.Given as goal

abbrev pub invariant-loop-id : goal.invariant-loop-id
invariant-loop-id l =
    map roomless_row l.rows.items ++ item_copies (map roomless l.cells) l.memories (drop l.id-index l.ids) ≡ item_copies (map roomless l.cells) l.memories l.ids
