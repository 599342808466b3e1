use Rattle.std.proofs.Common.{◌≡◌, ◌≤◌, ◌+◌, drop, length}
use Rattle.alert_run.specs.Notes.{notes_from, notes_of}
use Rattle.alert_run.proofs.notes.messages.Given as goal

abbrev pub invariant-loop-byte : goal.invariant-loop-byte
invariant-loop-byte l = record {
  so_far : notes_from l.lines (drop l.byte-index l.bytes) ≡ notes_of l.bytes;
  few : length l.lines.notes ≤ l.byte-index;
  small : l.lines.at + length l.lines.line ≤ l.byte-index;
}
