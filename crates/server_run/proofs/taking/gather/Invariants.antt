use Rattle.std.proofs.Common.{◌≡◌, ◌≤◌}
use Rattle.std.specs.Prelude.{None}
use Rattle.server_run.specs.Events.{Gathered}
use Rattle.server_run.specs.Statuses.{anywhere}
use Rattle.server_run.proofs.taking.gather.Given as goal

abbrev pub invariant-loop-count : goal.invariant-loop-count
invariant-loop-count g l = record {
  same : l.collection ≡ l.fn.collection;
  later : (g.W.Wire.tells l.fn.wire).faults ≤ (g.W.Wire.tells l.wire).faults;
  gathered : Gathered l.fn.collection l.fn.front l.front (g.W.Wire.tells l.fn.wire) (g.W.Wire.tells l.wire) l.count None None anywhere;
}
