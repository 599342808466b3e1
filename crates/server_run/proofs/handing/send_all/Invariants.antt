use Rattle.std.proofs.Common.{◌≡◌, ◌++◌, drop}
use Rattle.server_run.proofs.handing.send_all.Given as goal

-- what is sent and what is left are what was to be sent
abbrev pub invariant-loop-entry : goal.invariant-loop-entry
invariant-loop-entry g l = record {
  sent : l.head.sent ++ drop l.entry-index l.entries ≡ l.initial.head.sent ++ l.entries;
  capacity : l.head.capacity ≡ l.initial.head.capacity;
}
