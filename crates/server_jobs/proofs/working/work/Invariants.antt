use Rattle.std.proofs.Common.{◌≡◌, ◌≤◌, false, IfSome}
use Rattle.std.specs.Prelude.{is_some}
use Rattle.outside.specs.Disk.{LeavesOnly}
use Rattle.alert_marks.specs.Marks.{EachKeeps}
use Rattle.server_jobs.specs.Turning.{weigh}
use Rattle.server_jobs.specs.Working.{KeepsFront}
use Rattle.server_jobs.proofs.Going.{Going}
use Rattle.server_jobs.proofs.working.work.Given as goal

abbrev pub invariant-loop-number : goal.invariant-loop-number
invariant-loop-number g l = record {
  goes : Going l.media l.notes l.fn.queue l.queue (g.W.Spawner.tells l.fn.hand.spawner) (g.W.Spawner.tells l.hand.spawner) l.fn.marks.list l.marks.list;
  going : l.marks.is_broken ≡ false;
  keeps : EachKeeps (g.D.Disk.tells l.marks.disk) l.marks.list;
  later : (g.D.Disk.tells l.fn.marks.disk).faults ≤ (g.D.Disk.tells l.marks.disk).faults;
  told : is_some (g.D.Disk.tells l.marks.disk).bytes ≡ is_some (g.D.Disk.tells l.fn.marks.disk).bytes;
  moments : IfSome (g.D.Disk.tells l.fn.marks.disk).bytes (λ _. LeavesOnly (g.D.Disk.tells l.fn.marks.disk) (g.D.Disk.tells l.marks.disk) (KeepsFront l.marks.list));
}

abbrev pub decreases-loop-number : goal.decreases-loop-number
decreases-loop-number g l = weigh l.queue
