use Rattle.std.proofs.Common.{◌≡◌, ◌-◌, length}
use Rattle.alert_marks.specs.Reading.{IsOurs, IsRead, AreMet}
use Rattle.alert_marks.proofs.reading.read_groups.Given as goal

abbrev pub invariant-loop-reader : goal.invariant-loop-reader
invariant-loop-reader l = record {
  read : IsOurs l.bytes → IsRead l.bytes l.reader;
  met : AreMet l.reader;
}

abbrev pub decreases-loop-reader : goal.decreases-loop-reader
decreases-loop-reader l = length l.bytes - l.reader.gate
