use Rattle.std.proofs.Common.{◌≡◌, ◌++◌, take, drop}
use Rattle.entry_step.specs.Exchange.{put_all, triggers_taken}
use Rattle.entry_step.specs.declared.parts.TriggerRow.{TriggerRow}
use Rattle.entry_step.proofs.exchange.exchange_triggers.Given as goal

abbrev pub invariant-loop-place : goal.invariant-loop-place
invariant-loop-place l = record {
  problems : put_all (λ (row : TriggerRow). row.id) (λ (row : TriggerRow). row.problems) l.problems.items (drop l.place l.rows) ≡ put_all (λ (row : TriggerRow). row.id) (λ (row : TriggerRow). row.problems) l.fn.problems.items l.fn.rows;
  rows : take l.place l.rows ++ triggers_taken l.problems.items (drop l.place l.rows) ≡ triggers_taken l.fn.problems.items l.fn.rows;
}
