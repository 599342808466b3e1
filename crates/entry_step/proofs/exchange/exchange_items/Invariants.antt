use Rattle.std.proofs.Common.{◌≡◌, ◌++◌, take, drop}
use Rattle.entry_step.specs.Exchange.{put_all, items_taken}
use Rattle.entry_step.specs.declared.parts.ItemRow.{ItemRow}
use Rattle.entry_step.proofs.exchange.exchange_items.Given as goal

abbrev pub invariant-loop-place : goal.invariant-loop-place
invariant-loop-place l = record {
  cells : put_all (λ (row : ItemRow). row.id) (λ (row : ItemRow). row.cell) l.items.cells.items (drop l.place l.rows) ≡ put_all (λ (row : ItemRow). row.id) (λ (row : ItemRow). row.cell) l.fn.items.cells.items l.fn.rows;
  memories : put_all (λ (row : ItemRow). row.id) (λ (row : ItemRow). row.marks) l.items.memories.items (drop l.place l.rows) ≡ put_all (λ (row : ItemRow). row.id) (λ (row : ItemRow). row.marks) l.fn.items.memories.items l.fn.rows;
  rows : take l.place l.rows ++ items_taken l.items.cells.items l.items.memories.items (drop l.place l.rows) ≡ items_taken l.fn.items.cells.items l.fn.items.memories.items l.fn.rows;
}
