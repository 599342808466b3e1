use Rattle.std.proofs.Common.{◌≡◌, ◌≤◌, ◌-◌, length, take, drop, IfSome}
use Rattle.gated_file.specs.Moments.{IsAsBefore}
use Rattle.gated_file.proofs.whole.read_whole.Given as goal

abbrev pub invariant-loop-count : goal.invariant-loop-count
invariant-loop-count g l = record {
  room : l.count ≤ length l.into;
  content : IfSome (g.D.Disk.tells l.fn.disk).bytes (λ b. take l.count l.into ≡ take l.count (drop l.at b));
  before : IsAsBefore (g.D.Disk.tells l.fn.disk) (g.D.Disk.tells l.disk);
  count : (g.D.Disk.tells l.fn.disk).faults ≤ (g.D.Disk.tells l.disk).faults;
}

abbrev pub decreases-loop-count : goal.decreases-loop-count
decreases-loop-count g l = length l.initial.into - l.count
