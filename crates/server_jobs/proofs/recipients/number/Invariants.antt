use Rattle.std.proofs.Common.{take}
use Rattle.server_jobs.specs.Numbering.{IsNumbering}
use Rattle.server_jobs.proofs.recipients.number.Given as goal

abbrev pub invariant-loop-note : goal.invariant-loop-note
invariant-loop-note l = record {
  numbering : IsNumbering l.media (take l.note-index l.notes) l.numbered;
}
