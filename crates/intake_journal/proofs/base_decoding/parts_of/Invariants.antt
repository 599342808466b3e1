use Rattle.std.proofs.Common.{◌≡◌, ◌-◌}
use Rattle.intake_journal.specs.BaseForm.{parts_at}
use Rattle.intake_journal.proofs.PartsRead.{with_front}
use Rattle.intake_journal.proofs.base_decoding.parts_of.Given as goal

abbrev pub invariant-loop : goal.invariant-loop
invariant-loop g l = with_front l.parts (parts_at g.R.PartReader.part_at (l.count - l.counter) l.rest) ≡ parts_at g.R.PartReader.part_at l.count l.bytes
