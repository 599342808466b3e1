use Rattle.std.proofs.Common.{◌∙◌, ℕ, List, ap}
use Rattle.std.specs.Prelude.{slice_set}
use Rattle.intake_journal.specs.Block.{staged_in}
use Rattle.intake_journal.proofs.Staged.{none_in, cleared}
use Rattle.intake_journal.proofs.block.Block.clear.Goals as goal

pub returns : goal.returns
returns c =
    let none = c.set.ensures ∙ ap (λ (l : List ℕ). slice_set l 0 0) c.truncate.ensures ∙ cleared c.self.inside.bytes c.self.inside.entries c.self.invariant in
    ap (λ (l : List ℕ). staged_in l) none ∙ none_in
