use Rattle.std.proofs.Common.{◌∙◌, ℕ, List, ap}
use Rattle.intake_journal.specs.Block.{staged_in}
use Rattle.intake_journal.proofs.Staged.{none_in}
use Rattle.intake_journal.proofs.block.Block.new.Goals as goal

pub returns : goal.returns
returns c = ap (λ (l : List ℕ). staged_in l) c.in_ok-of.ensures ∙ none_in
