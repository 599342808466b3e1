use Rattle.std.proofs.Common.{◌≡◌, ◌≤◌}
use Rattle.gated_file.specs.Moments.{IsAsBefore}
use Rattle.intake_journal.specs.declared.state.State.TheVariants.{Reading}
use Rattle.journal_opening.specs.Recovered.{IsReadSoFar}
use Rattle.journal_opening.proofs.recovering.read_all.Given as goal

abbrev pub invariant-loop : goal.invariant-loop
invariant-loop g l = record {
  before : IsAsBefore (g.D.Disk.tells l.fn.journal.disk) (g.D.Disk.tells l.journal.disk);
  later : (g.D.Disk.tells l.fn.journal.disk).faults ≤ (g.D.Disk.tells l.journal.disk).faults;
  state : l.journal.state ≡ Reading;
  read : IsReadSoFar g.D.Disk.tells l.fn.journal l.journal l.numbering;
}
