use Rattle.std.proofs.Common.{◌≡◌, length}
use Rattle.zbx_types.specs.Blanks.{without_back}
use Rattle.zbx_types.proofs.blanks.without_back.Given as goal

abbrev pub invariant-loop-text : goal.invariant-loop-text
invariant-loop-text l = without_back l.text ≡ without_back l.fn.text

abbrev pub decreases-loop-text : goal.decreases-loop-text
decreases-loop-text l = length l.text
