use Rattle.std.proofs.Common.{◌≡◌, length}
use Rattle.intake_journal.specs.BaseBytes.{stand_in_order}
use Rattle.intake_journal.proofs.base_decoding.are_in_order.Given as goal

abbrev pub invariant-loop-rest : goal.invariant-loop-rest
invariant-loop-rest l = stand_in_order l.rest ≡ stand_in_order l.fn.ran

abbrev pub decreases-loop-rest : goal.decreases-loop-rest
decreases-loop-rest l = length l.rest
