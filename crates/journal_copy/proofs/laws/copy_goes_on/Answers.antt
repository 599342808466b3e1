use Rattle.journal_copy.proofs.GoingOn.{copy_goes_on}
use Rattle.journal_copy.proofs.laws.copy_goes_on.Goals as goal

pub returns : goal.returns
returns c = copy_goes_on
