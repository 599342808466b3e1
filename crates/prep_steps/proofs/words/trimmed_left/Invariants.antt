use Rattle.std.proofs.Common.{◌≡◌, length}
use denote.Text.{Utf8}
use denote.Shadow.{shadow}
use Rattle.prep_steps.specs.Words.{trimmed_left}
use Rattle.prep_steps.proofs.words.trimmed_left.Given as goal

abbrev pub invariant-loop-first : goal.invariant-loop-first
invariant-loop-first l = shadow (Utf8 l.rest) × (trimmed_left l.set l.rest ≡ trimmed_left l.set l.fn.text)

abbrev pub decreases-loop-first : goal.decreases-loop-first
decreases-loop-first l = length l.rest
