use Rattle.std.proofs.Common.{◌≡◌, ◌≤◌, ◌-◌, ◌+◌, ℕ, List}
use Rattle.zbx_types.specs.declared.entries.Numbered.{Numbered}
use Rattle.outside.specs.Tells.{WireTells}
use Rattle.intake_front.specs.Intake.{Intake}
use Rattle.intake_front.specs.Fronted.{IsReady, limits_of}
use Rattle.server_run.specs.Going.{IsServing, Reaches}
use Rattle.server_run.proofs.serving.serve.Given as goal

abbrev pub invariant-loop-taken : goal.invariant-loop-taken
invariant-loop-taken g l = record {
  same : l.collection ≡ g.S.StartName.start.stage.conf;
  within : l.taken ≤ l.turns;
  later : (g.W.Wire.tells l.fn.wire).faults ≤ (g.W.Wire.tells l.wire).faults;
  ready : IsReady l.fn.front.journal l.front.journal;
  serving : IsServing g.S.StartName.flat g.S.StartName.base g.S.StartName.start.stage.conf g.S.StartName.kept l.front l.head;
  ran : (recovered : List Numbered) (start : Intake) (d0 : g.row.D.Denot) (w0 : WireTells) (count : ℕ)
      → Reaches g.D.Disk.tells g.S.StartName.base (limits_of l.fn.front.journal 0) g.S.StartName.start.stage.conf recovered start l.fn.front.intake d0 l.fn.front.journal.disk w0 (g.W.Wire.tells l.fn.wire) count
      → Reaches g.D.Disk.tells g.S.StartName.base (limits_of l.fn.front.journal 0) g.S.StartName.start.stage.conf recovered start l.front.intake d0 l.front.journal.disk w0 (g.W.Wire.tells l.wire) (count + l.taken);
}

abbrev pub decreases-loop-taken : goal.decreases-loop-taken
decreases-loop-taken g l = l.turns - l.taken
