use Rattle.std.proofs.Common.{◌≡◌, length}
use denote.Text.{Utf8}
use denote.Shadow.{shadow}
use Rattle.prep_steps.specs.Words.{trimmed_right}
use Rattle.prep_steps.proofs.words.trimmed_right.Given as goal

abbrev pub invariant-loop-last : goal.invariant-loop-last
invariant-loop-last l = shadow (Utf8 l.rest) × (trimmed_right l.set l.rest ≡ trimmed_right l.set l.fn.text)

abbrev pub decreases-loop-last : goal.decreases-loop-last
decreases-loop-last l = length l.rest
