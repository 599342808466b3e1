use Rattle.std.proofs.Common.{◌≡◌, length}
use Rattle.zbx_types.specs.Blanks.{without_front}
use Rattle.zbx_types.proofs.blanks.without_front.Given as goal

abbrev pub invariant-loop-text : goal.invariant-loop-text
invariant-loop-text l = without_front l.text ≡ without_front l.fn.text

abbrev pub decreases-loop-text : goal.decreases-loop-text
decreases-loop-text l = length l.text
